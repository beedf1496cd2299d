-- Where a key stands among entries that are gone through in order.
use Rattle.std.proofs.Common.{◌≡◌, ℕ, ◌+◌, ◌-◌, ◌<◌, ◌≤◌, true, List, [], ◌∷◌, ◌++◌, length, get_or, drop, Option, Some, Ordering, Less, Equal, Greater, inl, inr, refl, sym, ap, subst, ◌∙◌, arith}
use Rattle.std.specs.List.{AllByRecursion}
use Rattle.std.specs.Ordering.{is_lt, ordering_reverse}
use Rattle.std.specs.Cmp.Lexicographic.{nat_list_cmp_total}
use Rattle.std.specs.FinMap.Entries.{below_all, is_sorted}
use Rattle.std.proofs.lemmas.Bool.{and_parts, and_from}
use Rattle.std.proofs.lemmas.List.{drop_more}
use Rattle.std.proofs.lemmas.List.Sums.{sum_by-cons}
use Rattle.sea_base.proofs.Slices.{length-slice}
use Rattle.sea_node.specs.declared.reading.Span.{Span}
use Rattle.sea_node.specs.Entries.{Entry, key_order, IsBelow, IsNotAbove, IsRising, size, entry_size, entries_before, entries_at}
use Rattle.sea_node.specs.Reading.{IsSpan, key_in, entry_in}
use Rattle.sea_node.specs.Lookup.{AreAbove, FindsAt}
use Rattle.sea_node.proofs.Keys.{AreBelow, IsRising-split, key_order-itself, below_or_same, below_then_not_above, below_all_shown}
use Rattle.sea_node.proofs.Nodes.{size-append, size-one}
use Rattle.sea_node.proofs.Splits.{before_first, at_first, is_above, below_less, below_tied}
use Rattle.sea_node.proofs.Edits.{size_split}

-- The entries up to these were gone through, all of them before the key.
pub record Passed (key : List ℕ) (entries rest : List Entry) (before : ℕ) : Type 0 where
  pub before_is : before + size (entries_before key rest) ≡ size (entries_before key entries)
  pub at_is : entries_at key rest ≡ entries_at key entries
  pub rising : IsRising rest

module _ (key : List ℕ) (entries items : List Entry) (i before : ℕ) (e : Entry) (left : Passed key entries (drop i items) before) (within : i < length items) (is_at : e ≡ get_or items i e) where
  abbrev rest : List Entry
  rest = drop (i + 1) items

  passed : Passed key entries (e ∷ rest) before
  passed = subst (λ (r : List Entry). Passed key entries r before) (drop_more items i e within ∙ ap (λ (x : Entry). x ∷ rest) (sym is_at)) left

  back : (r : Ordering) → key_order e.0 key ≡ r → key_order key e.0 ≡ ordering_reverse r
  back r is = nat_list_cmp_total.antisymm key e.0 ∙ ap ordering_reverse is

  above_rest : below_all key_order e.0 rest ≡ true
  above_rest = (and_parts (below_all key_order e.0 rest) (is_sorted key_order rest) passed.rising).0

  -- one more entry before the key
  pub passed_more : key_order e.0 key ≡ Less → Passed key entries rest (before + entry_size e)
  passed_more is =
      let first = before_first key_order key e rest Greater (back Less is) nat_list_cmp_total in
      let here : size (entries_before key (e ∷ rest)) ≡ size (e ∷ entries_before key rest) = ap size first in
      record {
        before_is = omega (arith, here, sum_by-cons entry_size e (entries_before key rest), passed.before_is);
        at_is = sym (at_first key_order key e rest Greater (back Less is)) ∙ passed.at_is;
        rising = (and_parts (below_all key_order e.0 rest) (is_sorted key_order rest) passed.rising).1;
      }

  -- the entry at the key
  pub passed_found : key_order e.0 key ≡ Equal → (before ≡ size (entries_before key entries)) × (entry_size e ≡ size (entries_at key entries))
  passed_found is =
      let above = is_above key_order key nat_list_cmp_total rest (below_tied key_order key nat_list_cmp_total e.0 rest (back Equal is) above_rest) in
      let b : size (entries_before key (e ∷ rest)) ≡ 0 = ap size (before_first key_order key e rest Equal (back Equal is) nat_list_cmp_total ∙ above.none_before) in
      let t : size (entries_at key (e ∷ rest)) ≡ entry_size e = ap size (at_first key_order key e rest Equal (back Equal is) ∙ ap (λ (r : List Entry). e ∷ r) above.none_at) ∙ omega arith in
      (omega (arith, b, passed.before_is), sym t ∙ ap size passed.at_is)

  -- an entry after the key
  pub passed_beyond : key_order e.0 key ≡ Greater → (before ≡ size (entries_before key entries)) × (0 ≡ size (entries_at key entries))
  passed_beyond is =
      let above = is_above key_order key nat_list_cmp_total (e ∷ rest) (and_from (is_lt (key_order key e.0)) (below_all key_order key rest) (ap is_lt (back Greater is)) (below_less key_order key nat_list_cmp_total e.0 rest (back Greater is) above_rest)) in
      let b : size (entries_before key (e ∷ rest)) ≡ 0 = ap size above.none_before in
      (omega (arith, b, passed.before_is), ap size (sym above.none_at ∙ passed.at_is))

-- the entries before a key fit where all fit
pub before_fits : (key : List ℕ) (entries : List Entry) → IsRising entries → size (entries_before key entries) ≤ size entries
before_fits key entries rising = omega (arith, size_split key entries rising)

-- ---- where a key stands among entries that tell of it

-- where each entry is above the key
pub place_none : (key : List ℕ) (es : List Entry) → AreAbove key es → (entries_before key es ≡ []) × (entries_at key es ≡ [])
place_none key es all =
    let above = is_above key_order key nat_list_cmp_total es (below_all_shown key es all) in (above.none_before, above.none_at)

-- entries that are all below the key stand before it
split_front : (key : List ℕ) (before others : List Entry) → AllByRecursion (λ (b : Entry). IsBelow b.0 key) before
    → (entries_before key (before ++ others) ≡ before ++ entries_before key others) × (entries_at key (before ++ others) ≡ entries_at key others)
split_front key [] others all = (refl, refl)
split_front key (b ∷ before) others all =
    let is : key_order key b.0 ≡ Greater = nat_list_cmp_total.antisymm key b.0 ∙ ap ordering_reverse all.0 in
    let more = split_front key before others all.1 in (
      before_first key_order key b (before ++ others) Greater is nat_list_cmp_total ∙ ap (λ (r : List Entry). b ∷ r) more.0,
      at_first key_order key b (before ++ others) Greater is ∙ more.1,
    )

below_key : (key : List ℕ) (before : List Entry) (e : Entry) (after : List Entry) → AreBelow before (e ∷ after) → IsNotAbove e.0 key → AllByRecursion (λ (b : Entry). IsBelow b.0 key) before
below_key key [] e after all le = tt
below_key key (b ∷ before) e after all le = (below_then_not_above b.0 e.0 key all.0.0 le, below_key key before e after all.1 le)

-- the last entry that is not above the key is the key's own, or the last before it
own_entry : (key : List ℕ) (e : Entry) (after : List Entry) → e.0 ≡ key → AreAbove key after → (entries_before key (e ∷ after) ≡ []) × (entries_at key (e ∷ after) ≡ e ∷ [])
own_entry key e after same above =
    let is : key_order key e.0 ≡ Equal = ap (key_order key) same ∙ key_order-itself key in
    let none = place_none key after above in
    (before_first key_order key e after Equal is nat_list_cmp_total ∙ none.0, at_first key_order key e after Equal is ∙ ap (λ (r : List Entry). e ∷ r) none.1)

last_before : (key : List ℕ) (e : Entry) (after : List Entry) → IsBelow e.0 key → AreAbove key after → (entries_before key (e ∷ after) ≡ e ∷ []) × (entries_at key (e ∷ after) ≡ [])
last_before key e after below above =
    let is : key_order key e.0 ≡ Greater = nat_list_cmp_total.antisymm key e.0 ∙ ap ordering_reverse below in
    let none = place_none key after above in
    (before_first key_order key e after Greater is nat_list_cmp_total ∙ ap (λ (r : List Entry). e ∷ r) none.0, at_first key_order key e after Greater is ∙ none.1)

module _ (bytes key : List ℕ) (es : List Entry) (rising : IsRising es) (x : Span) (next : Option Span) (finds : FindsAt bytes key es (Some x) next) where
  abbrev e : Entry
  e = entry_in bytes x

  abbrev before : List Entry
  before = finds.0

  abbrev after : List Entry
  after = finds.1

  parts : IsRising before × IsRising (e ∷ after) × AreBelow before (e ∷ after)
  parts = IsRising-split before (e ∷ after) (subst IsRising finds.2 rising)

  front : (entries_before key (before ++ e ∷ after) ≡ before ++ entries_before key (e ∷ after)) × (entries_at key (before ++ e ∷ after) ≡ entries_at key (e ∷ after))
  front = split_front key before (e ∷ after) (below_key key before e after parts.2 finds.4)

  found_ends : x.end ≡ 32 + size before + entry_size e
  found_ends = omega (arith, finds.3, size-append before (e ∷ []), size-one e)

  pub found_own : key_in bytes x ≡ key → (x.end ≡ 32 + size (entries_before key es) + entry_size (entry_in bytes x)) × (size (entries_at key es) ≡ entry_size (entry_in bytes x))
  found_own same =
      let own = own_entry key e after same finds.5 in
      let b : size (entries_before key es) ≡ size (before ++ []) = ap (λ (fs : List Entry). size (entries_before key fs)) finds.2 ∙ ap size front.0 ∙ ap (λ (r : List Entry). size (before ++ r)) own.0 in
      let a : size (entries_at key es) ≡ size (e ∷ []) = ap (λ (fs : List Entry). size (entries_at key fs)) finds.2 ∙ ap size front.1 ∙ ap size own.1 in
      (omega (arith, b, size-append before [], found_ends), omega (arith, a, size-one e))

  pub found_before : (key_in bytes x ≡ key → ⊥) → (x.end ≡ 32 + size (entries_before key es)) × (size (entries_at key es) ≡ 0)
  found_before other =
      let below : IsBelow e.0 key = elim (below_or_same e.0 key finds.4) [ inl less ↦ less | inr same ↦ absurd (other same) ] in
      let last = last_before key e after below finds.5 in
      let b : size (entries_before key es) ≡ size (before ++ e ∷ []) = ap (λ (fs : List Entry). size (entries_before key fs)) finds.2 ∙ ap size front.0 ∙ ap (λ (r : List Entry). size (before ++ r)) last.0 in
      let a : size (entries_at key es) ≡ size [] = ap (λ (fs : List Entry). size (entries_at key fs)) finds.2 ∙ ap size front.1 ∙ ap size last.1 in
      (omega (arith, b, finds.3), a)

-- the size of the entry where a span says
pub span_size : (bytes : List ℕ) (x : Span) → length bytes ≡ 4096 → IsSpan bytes x → entry_size (entry_in bytes x) ≡ 3 + (x.end - x.key_at)
span_size bytes x len is =
    omega (arith, length-slice bytes x.key_at x.value_at is.key_first (omega (arith, is.value_then, is.within)), length-slice bytes x.value_at x.end is.value_then (omega (arith, is.within)), is.key_first, is.value_then)
