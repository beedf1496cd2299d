-- The content of a tree after its keys were changed in order, and how many pairs it has.
use Rattle.std.proofs.Common.{◌≡◌, ℕ, zero, suc, ◌+◌, ◌-◌, ◌≤◌, List, [], ◌∷◌, true, cond, Option, Some, None, is_some, is_none, refl, sym, ap, ◌∙◌, arith}
use Rattle.std.specs.List.{count_by}
use Rattle.std.specs.FinMap as finite
use Rattle.std.proofs.lemmas.List.Sums.{sum_by-cons}
use Rattle.std.specs.FinMap.{len-insert, len-remove, empty_of_len, get-empty}
use Rattle.sea_node.specs.Entries.{Entry, Values, key_order}
use Rattle.sea_node.proofs.Keys.{key_order_total}
use Rattle.sea_object.specs.Objects.{with_pairs, without_keys}
use Rattle.sea_tree.specs.Changing.{changed_content}
use Rattle.sea_omap.specs.Changes.{Change, puts, removals}

abbrev pub content_after : List Change → Values → Values
content_after [] content = content
content_after (change ∷ changes) content = content_after changes (changed_content change.0 change.1 content)

-- the value of each key as its turn comes
abbrev pub found_in : List Change → Values → List (Option (List ℕ))
found_in [] content = []
found_in (change ∷ changes) content =
    finite.get content change.0 ∷ found_in changes (changed_content change.0 change.1 content)

pub after_puts : (pairs : List Entry) (content : Values) → content_after (puts pairs) content ≡ with_pairs pairs content
after_puts [] content = refl
after_puts (pair ∷ pairs) content = after_puts pairs (finite.insert content pair.0 pair.1)

pub after_removals : (keys : List (List ℕ)) (content : Values) → content_after (removals keys) content ≡ without_keys keys content
after_removals [] content = refl
after_removals (key ∷ keys) content = after_removals keys (finite.remove content key)

-- a pair more, where its key is new
insert_more : (found : Option (List ℕ)) (m n : ℕ) → m ≡ cond (is_some found) n (n + 1) → m ≡ n + cond (is_none found) 1 0
insert_more None m n e = e
insert_more (Some value) m n e = omega (arith, e)

-- one key counted, and those after it
counted : (n one rest mid end : ℕ) → mid ≡ n + one → end ≡ mid + rest → end ≡ n + (one + rest)
counted n one rest mid end first later = omega arith

pub puts_counted : (pairs : List Entry) (content : Values) → finite.len (with_pairs pairs content) ≡ finite.len content + count_by is_none (found_in (puts pairs) content)
puts_counted [] content = omega arith
puts_counted (pair ∷ pairs) content =
    let one = insert_more (finite.get content pair.0) _ (finite.len content) (len-insert key_order_total content pair.0 pair.1) in
    counted (finite.len content) _ _ _ _ one (puts_counted pairs (finite.insert content pair.0 pair.1))
    ∙ ap (λ (n : ℕ). finite.len content + n) (sym (sum_by-cons (λ (f : Option (List ℕ)). cond (is_none f) 1 0) (finite.get content pair.0) (found_in (puts pairs) (finite.insert content pair.0 pair.1))))

-- a pair less, where its key was there
has_some : (content : Values) (key : List ℕ) → is_some (finite.get content key) ≡ true → 1 ≤ finite.len content
has_some content key has = by (finite.len content) refl
  where
    by : (n : ℕ) → finite.len content ≡ n → 1 ≤ n
    by zero none = absurd (let empty = empty_of_len content none in cc (get-empty {X = List ℕ} key_order key))
    by (suc n) some = omega arith

remove_less : (found : Option (List ℕ)) (m n : ℕ) → (is_some found ≡ true → 1 ≤ n) → m ≡ cond (is_some found) (n - 1) n → n ≡ m + cond (is_some found) 1 0
remove_less None m n some e = omega (arith, e)
remove_less (Some value) m n some e = let least = some refl in omega (arith, e)

uncounted : (n one rest mid end : ℕ) → mid ≡ n + rest → end ≡ mid + one → end ≡ n + (one + rest)
uncounted n one rest mid end later first = omega arith

pub removals_counted : (keys : List (List ℕ)) (content : Values) → finite.len content ≡ finite.len (without_keys keys content) + count_by is_some (found_in (removals keys) content)
removals_counted [] content = omega arith
removals_counted (key ∷ keys) content =
    let one = remove_less (finite.get content key) _ (finite.len content) (has_some content key) (len-remove key_order_total content key) in
    uncounted (finite.len (without_keys keys (finite.remove content key))) _ _ _ _ (removals_counted keys (finite.remove content key)) one
    ∙ ap (λ (n : ℕ). finite.len (without_keys keys (finite.remove content key)) + n) (sym (sum_by-cons (λ (f : Option (List ℕ)). cond (is_some f) 1 0) (finite.get content key) (found_in (removals keys) (finite.remove content key))))
