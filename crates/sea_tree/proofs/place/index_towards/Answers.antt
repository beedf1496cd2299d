use Rattle.std.proofs.Common.{rules, ◌≡◌, List, true, false, sym, subst}
use Rattle.std.specs.Ordering.{is_le}
use Rattle.std.specs.List.Sorted.{IsPartitionPoint}
use Rattle.std.proofs.lemmas.List.Sorted.{IsPartitionPoint-from_clause}
use Rattle.sea_node.specs.Entries.{Entry, IsRising, key_order}
use Rattle.sea_tree.proofs.Splits.{is_partitioned, some_passes, point_leads}
use Rattle.sea_tree.proofs.place.index_towards.Goals as goal

pub overflow_sub-result : goal.overflow_sub-result
overflow_sub-result c =
    let key = c.args.key.now in
    let rising = subst IsRising (sym c.items.ensures) c.requires.node.rising in
    let found = IsPartitionPoint-from_clause (λ (e : Entry). is_le (key_order e.0 key)) c.items.result.now c.partition_point.result c.partition_point.ensures.partitioned (is_partitioned c.items.result.now key rising) (λ a r q k. search rules) in
    some_passes c.args.node.now.entries key c.partition_point.result c.requires.node.some c.requires.some (subst (λ (es : List Entry). IsPartitionPoint (λ (e : Entry). is_le (key_order e.0 key) ≡ true) (λ (e : Entry). is_le (key_order e.0 key) ≡ false) es c.partition_point.result) c.items.ensures found)

pub returns-clause-leads : goal.returns-clause-leads
returns-clause-leads c =
    let key = c.args.key.now in
    let rising = subst IsRising (sym c.items.ensures) c.requires.node.rising in
    let found = IsPartitionPoint-from_clause (λ (e : Entry). is_le (key_order e.0 key)) c.items.result.now c.partition_point.result c.partition_point.ensures.partitioned (is_partitioned c.items.result.now key rising) (λ a r q k. search rules) in
    let point = subst (λ (es : List Entry). IsPartitionPoint (λ (e : Entry). is_le (key_order e.0 key) ≡ true) (λ (e : Entry). is_le (key_order e.0 key) ≡ false) es c.partition_point.result) c.items.ensures found in
    λ before after e split. point_leads c.args.node.now.entries key c.partition_point.result (overflow_sub-result c) point before after e split
