use Rattle.std.proofs.Common.{rules, ◌≡◌, ◌++◌, ◌∷◌, [], ◌∙◌, sym, ap, List, ℕ, Bor, Option, take, drop}
use Rattle.std.specs.Ordering.{is_lt, is_le}
use Rattle.std.specs.Option.{option_copied}
use Rattle.std.proofs.lemmas.List.{take_rest}
use Rattle.std.proofs.lemmas.List.Sorted.{IsPartitionPoint-from_clause}
use Rattle.sea_node.specs.Entries.{Entry, key_order, edited}
use Rattle.sea_tree.proofs.Splits.{is_partitioned}
use Rattle.sea_tree.proofs.Applied.{is_partitioned_below, edited_parts-Some, edited_parts-None, none_from}
use Rattle.sea_tree.proofs.edit.with_pair.Goals as goal
use Rattle.sea_tree.proofs.edit.with_pair.Goals.{in-Some+in_ok-copy+in_ok-copy-2+in_ok-push, in_default}

pub returns : goal.returns
returns c =
    let es : List Entry = c.args.entries.now in
    let key : List ℕ = c.args.key.now in
    let start = c.partition_point-start.result in
    let end = c.partition_point-end.result in
    let below = IsPartitionPoint-from_clause (λ (e : Entry). is_lt (key_order e.0 key)) es start c.partition_point-start.ensures.partitioned (is_partitioned_below es key c.requires) (λ a r q k. search rules) in
    let upto = IsPartitionPoint-from_clause (λ (e : Entry). is_le (key_order e.0 key)) es end c.partition_point-end.ensures.partitioned (is_partitioned es key c.requires) (λ a r q k. search rules) in
    let last : c.push_copies-2.new.pairs ≡ c.match-value.changed ++ drop end es = c.in_ok-push_copies-2.ensures ∙ ap (λ (r : List Entry). c.match-value.changed ++ r) (take_rest es end) in
    let first : c.push_copies.new.pairs ≡ take start es = c.in_ok-push_copies.ensures ∙ ap (λ (r : List Entry). r ++ take start es) c.new-changed.ensures in
    elim c.match-value.branch [
      | in-Some+in_ok-copy+in_ok-copy-2+in_ok-push w ↦
          let k : w.in_ok-copy.field-0 ≡ key = w.in_ok-copy.ensures in
          let v : w.in_ok-copy-2.field-0 ≡ w.in-Some.value.now = w.in_ok-copy-2.ensures in
          let pushed : w.push.new.self ≡ c.push_copies.new.pairs ++ (w.in_ok-copy.field-0, w.in_ok-copy-2.field-0) ∷ [] = w.in_ok-push.ensures.ok in
          let before : c.match-value.changed ≡ take start es ++ (key, w.in-Some.value.now) ∷ [] = w.changed-is ∙ pushed ∙ (λ j. first j ++ (k j, v j) ∷ []) in
          last ∙ ap (λ (r : List Entry). r ++ drop end es) before ∙ edited_parts-Some key w.in-Some.value.now es start end c.requires below upto
          ∙ sym (ap (λ (o : Option (Bor (List ℕ))). edited key (option_copied o) es) w.in-Some.is)
      | in_default w ↦
          last ∙ ap (λ (r : List Entry). r ++ drop end es) (w.changed-is ∙ first) ∙ edited_parts-None key es start end c.requires below upto
          ∙ sym (ap (λ (o : Option (Bor (List ℕ))). edited key (option_copied o) es) (none_from c.args.value w.in_default.not-Some))
    ]
