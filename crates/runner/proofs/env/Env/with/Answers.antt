use Rattle.std.proofs.Common.{refl}
use Rattle.runner.proofs.Renaming.{renamed}
use Rattle.runner.proofs.env.Env.with.Goals as goal

pub returns-clause-names : goal.returns-clause-names
returns-clause-names c = renamed c.args.self.now _ refl refl c.args.name c.push.result c.push.ensures.value c.push.ensures.after
