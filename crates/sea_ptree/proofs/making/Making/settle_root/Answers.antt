use Rattle.std.proofs.Common.{◌+◌, List, subst, arith, inr}
use Rattle.sea_ptree.specs.Making.{Wrote}
use Rattle.sea_ptree.specs.Node.{Entry}
use Rattle.sea_ptree.proofs.making.Making.settle_root.Goals as goal

pub returns-clause-settled : goal.returns-clause-settled
returns-clause-settled c = inr (inr (inr (record {
  parts = c.in_ok-parts.parts.items;
  entry = (c.in_ok-slot-2.field-0-0, c.in_ok-slot-2.slot);
  mid = c.write_parts.new.self;
  low = omega (arith, c.requires.level, c.if-level-eq7.false);
  many = omega (arith, c.if-entries-le-MOST_ENTRIES.false);
  halves = c.in_ok-parts.ensures.wrote;
  wrote = subst (λ (xs : List Entry). Wrote c.write_parts.new.self c.write-2.new.self (c.args.level + 1) xs (c.in_ok-slot-2.field-0-0, c.in_ok-slot-2.slot)) c.deref.ensures.value c.in_ok-slot-2.ensures;
  root_is = c.root_over-2.ensures;
})))
