use Rattle.std.proofs.Common.{◌≡◌, ◌++◌, drop}
use Rattle.sea_plain.specs.Answer.{items, after}
use Rattle.sea_plain.proofs.plain.Plain.apply.Given as goal

-- the items so far and those of what is left are those of all
abbrev pub invariant-loop-op : goal.invariant-loop-op
invariant-loop-op l = record {
  told : l.answers ++ items (drop l.op-index l.op-items) l.self ≡ items l.op-items l.fn.self;
  done : after (drop l.op-index l.op-items) l.self ≡ after l.op-items l.fn.self;
}
