-- What reading a whole text answers.
use Rattle.std.specs.Prelude.{Ok, Err, Result}
use Rattle.rules.specs.Scripts as rules
use Rattle.grammar.specs.Tokens.{Refusal}
use Rattle.script.specs.declared.script.Script.{Script}
use Rattle.script.specs.Meaning.{script_of}

abbrev pub scripted : Result Script Refusal → Result rules.Code Refusal
scripted (Ok s) = Ok (script_of s)
scripted (Err why) = Err why
