use Rattle.rules.proofs.promises.lattices_are_lawful.Goals as goal

pub returns : goal.returns
returns g c = g.met.L.Lattice.lawful c.args.lattice.now
