use Rattle.std.proofs.Common.{rules, ◌<◌, [], length, sym, subst, arith, below_more}
use Rattle.std.specs.Option.{option_copied}
use Rattle.std.proofs.lemmas.List.{get_or_read}
use Rattle.std.proofs.lemmas.List.Elements.{All-from_get_or}
use Rattle.sea_node.specs.Entries.{Entry}
use Rattle.sea_tree.specs.Tree.{IsWithin}
use Rattle.sea_formed.proofs.place.are_within.Goals as goal

pub returns-then-not-is_within : goal.returns-then-not-is_within
returns-then-not-is_within c = (
  (λ h. absurd (cc)),
  (λ all.
      let within : c.loop-entry.entry-index < length c.args.entries.now = omega arith in
      let told = c.is_within.ensures.1 (subst (λ (e : Entry). IsWithin e.0 (option_copied c.args.upper)) (sym c.entry-item.is) (all c.loop-entry.entry-index c.entry-item.result within)) in
      let not = c.if-not-is_within.true in absurd (cc)),
)

pub loop-entry-preserved : goal.loop-entry-preserved
loop-entry-preserved c =
    let within : c.loop-entry.entry-index < length c.args.entries.now = omega arith in
    let here = get_or_read c.args.entries.now _ _ within c.entry-item.is ([], []) in
    below_more _ _ c.loop-entry.invariant (subst (λ (e : Entry). IsWithin e.0 (option_copied c.args.upper)) here (c.is_within.ensures.0 c.if-not-is_within.false))

pub returns : goal.returns
returns c = (
  (λ h. All-from_get_or (λ (e : Entry). IsWithin e.0 (option_copied c.args.upper)) c.args.entries.now ([], []) (λ i within. c.loop-entry.invariant i (omega arith))),
  (λ all. search rules),
)
