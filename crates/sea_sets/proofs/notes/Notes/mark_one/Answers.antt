use Rattle.std.proofs.Common.{subst, sym}
use Rattle.sea_sets.specs.Versions.{IsQuiet}
use Rattle.sea_sets.proofs.notes.Notes.mark_one.Goals as goal

pub invariant_of-self-in_default : goal.invariant_of-self-in_default
invariant_of-self-in_default c = record {
  quiet = λ unmarked. subst IsQuiet (sym c.get_mut.follows.holds-at-none) (c.args.self.now.quiet unmarked);
}
