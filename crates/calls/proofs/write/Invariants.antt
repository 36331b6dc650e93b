use Rattle.std.specs.Io.KnownBytes.{Keeps}
use Rattle.calls.proofs.write.Given as goal

abbrev pub invariant-loop : goal.invariant-loop
invariant-loop g l = Keeps (g.W.Write.contents l.initial.file) (g.W.Write.contents l.file)
