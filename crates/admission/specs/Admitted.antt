-- What an admission of the code stands for.
use Rattle.std.specs.Prelude.{Ok, Err, Result}
use Rattle.rules.specs.declared.refusal.Refusal.{Refusal}
use Rattle.rules.specs.Admission as rules
use Rattle.script.specs.Meaning.{script_of}
use Rattle.admission.specs.declared.admitting.Admitted.{Admitted}

-- The script of the rules that an admitted one is, with its figure.
abbrev pub held_script : Admitted → rules.Script
held_script a = record { code = script_of a.script; figure = a.figure }

abbrev pub admitted : Result Admitted Refusal → Result rules.Script Refusal
admitted (Ok a) = Ok (held_script a)
admitted (Err why) = Err why
