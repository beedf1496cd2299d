use Rattle.std.proofs.Common.{refl}
use Rattle.sea_sets.proofs.Quiet.{put_quiet}
use Rattle.sea_sets.proofs.notes.Notes.add.Goals as goal

pub invariant_of-self : goal.invariant_of-self
invariant_of-self c = record {
  quiet = λ unmarked. put_quiet c.args.at.0 _ c.insert.result c.args.self.now.notes c.insert.new.self c.insert.ensures.updates c.insert.ensures.err refl (c.args.self.now.quiet unmarked);
}
