use Rattle.std.proofs.Common.{◌+◌, ◌-◌, ◌<◌, ◌++◌, List, length, get_or, refl, ap, subst, ◌∙◌, arith, inr}
use Rattle.std.proofs.lemmas.Result.{err_from_is_err_and}
use Rattle.sea_ptree.specs.declared.link.Link.{Link}
use Rattle.sea_ptree.specs.Faults.{IsNodeFault}
use Rattle.sea_ptree.specs.Making.{Took}
use Rattle.sea_ptree.specs.Node.{Entry}
use Rattle.sea_ptree.specs.Tree.{NodeAt}
use Rattle.sea_ptree.proofs.Relocations.{next_there}
use Rattle.sea_ptree.proofs.Walks.{next_has}
use Rattle.sea_ptree.proofs.making.Making.gather.Goals as goal
use Rattle.sea_ptree.proofs.making.Making.gather.Goals.{else-len-lt-LEAST_ENTRIES-via-then-len-lt-LEAST_ENTRIES+else-index-entries, else-len-lt-LEAST_ENTRIES-via-else-len-lt-LEAST_ENTRIES}

abbrev d : Entry
d = (0, record { at = record { 0 = 0 }; version = record { 0 = 0 }; sum = record { 0 = 0 } })

pub returns-in_err-right-clause-fault : goal.returns-in_err-right-clause-fault
returns-in_err-right-clause-fault g c =
    let p = err_from_is_err_and c.from_residual.result c.from_residual.ensures.1 in
    let e = get_or c.args.entries.now (c.args.index + 1) d in
    rw (p.1, p.2) (
      get_or c.args.entries.now (c.args.index + 1) d,
      next_has c.args.entries.now (c.args.index + 1) (get_or c.args.entries.now (c.args.index + 1) d) (next_there c.args.entries.now (c.args.index + 1) d c.if-index-entries.true),
      subst (λ (l : Link). IsNodeFault c.args.self.now.kind (g.B.Blocks.held c.args.blocks.now) (g.B.Blocks.held c.take.new.blocks) c.args.level l c.in_err-right.field-0.0) c.of.ensures c.in_err-right.ensures.fault,
    )

pub returns-in_err-all-clause-fault : goal.returns-in_err-all-clause-fault
returns-in_err-all-clause-fault g c =
    let p = err_from_is_err_and c.from_residual-in_err-all.result c.from_residual-in_err-all.ensures.1 in
    rw (p.1, p.2) (get_or c.args.entries.now c.args.index d, next_has c.args.entries.now c.args.index (get_or c.args.entries.now c.args.index d) (next_there c.args.entries.now c.args.index d c.requires.index), c.in_ok-right.ensures.kept.1)

pub returns-in_err-left-clause-fault : goal.returns-in_err-left-clause-fault
returns-in_err-left-clause-fault g c =
    let p = err_from_is_err_and c.from_residual-in_err-left.result c.from_residual-in_err-left.ensures.1 in
    let lt : c.args.index - 1 < length c.args.entries.now = omega (arith, c.requires.index) in
    rw (p.1, p.2) (
      get_or c.args.entries.now (c.args.index - 1) d,
      next_has c.args.entries.now (c.args.index - 1) (get_or c.args.entries.now (c.args.index - 1) d) (next_there c.args.entries.now (c.args.index - 1) d lt),
      subst (λ (l : Link). IsNodeFault c.args.self.now.kind (g.B.Blocks.held c.args.blocks.now) (g.B.Blocks.held c.take-then-index-gt0.new.blocks) c.args.level l c.in_err-left.field-0.0) c.of-then-index-gt0.ensures c.in_err-left.ensures.fault,
    )

pub returns-in_err-all-2-clause-fault : goal.returns-in_err-all-2-clause-fault
returns-in_err-all-2-clause-fault g c =
    let p = err_from_is_err_and c.from_residual-in_err-all-2.result c.from_residual-in_err-all-2.ensures.1 in
    rw (p.1, p.2) (get_or c.args.entries.now c.args.index d, next_has c.args.entries.now c.args.index (get_or c.args.entries.now c.args.index d) (next_there c.args.entries.now c.args.index d c.requires.index), c.in_ok-left.ensures.kept.1)

pub returns-then-index-gt0-clause-gathered : goal.returns-then-index-gt0-clause-gathered
returns-then-index-gt0-clause-gathered g c told =
    let lt : c.args.index - 1 < length c.args.entries.now = omega (arith, c.requires.index) in
    inr (inr (record {
      previous = get_or c.args.entries.now (c.args.index - 1) d;
      beside = c.in_ok-left.left.items;
      few = omega arith;
      last = elim c.else-len-lt-LEAST_ENTRIES.branch [
        | else-len-lt-LEAST_ENTRIES-via-then-len-lt-LEAST_ENTRIES+else-index-entries w ↦ omega (arith, w.if-index-entries.false, c.requires.index)
        | else-len-lt-LEAST_ENTRIES-via-else-len-lt-LEAST_ENTRIES w ↦ absurd (omega (arith, w.if-len-lt-LEAST_ENTRIES.false, c.if-len-lt-LEAST_ENTRIES-2.true))
      ];
      from_is = omega (arith, c.if-index-gt0.true);
      to_is = refl;
      there = (next_there c.args.entries.now (c.args.index - 1) d lt).rest;
      node = subst (λ (l : Link). NodeAt c.args.self.now.kind (g.B.Blocks.held c.args.blocks.now).image c.args.level l c.in_ok-left.left.items) c.of-then-index-gt0.ensures (c.in_ok-left.ensures.node told);
      took = subst (λ (l : Link). Took c.args.self.now c.take-then-index-gt0.new.self l.at) c.of-then-index-gt0.ensures c.in_ok-left.ensures.took;
      all_is = c.in_ok-all-2.ensures ∙ ap (λ (xs : List Entry). c.in_ok-left.left.items ++ xs) c.deref-then-index-gt0.ensures.value;
    }))
