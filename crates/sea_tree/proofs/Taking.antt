-- What a range has taken, leaf by leaf.
use Rattle.std.proofs.Common.{◌≡◌, ℕ, ◌<◌, ◌≤◌, Bool, true, cond, List, [], ◌∷◌, ◌++◌, length, take, Option, Some, None, refl, sym, ap, subst, ◌∙◌, arith, length-take, length-append}
use Rattle.std.specs.Option.{unwrap_or, option_copied}
use Rattle.std.specs.Borrow.{Bor}
use Rattle.std.specs.List.{All}
use Rattle.std.specs.Ordering.{is_lt}
use Rattle.std.specs.declared.cmp.Ordering.{Ordering}
use Rattle.std.specs.declared.cmp.Ordering.TheVariants.{Less, Equal, Greater}
use Rattle.std.specs.FinMap as map
use Rattle.sea_base.specs.Space.{Store, Seen, IsKnown, IsSound, Agrees, OnlyRead, laid}
use Rattle.sea_node.specs.Entries.{Entry, Values, IsNotAbove}
use Rattle.sea_node.proofs.Keys.{IsNotAbove-trans, IsNotAbove-below, below_then_not_above, not_above_then_below, least_key}
use Rattle.sea_tree.specs.Tree.{Bounds, IsWithin, LiesWithin}
use Rattle.sea_tree.specs.Content.{HasContent}
use Rattle.sea_tree.specs.Calls.{pairs_above}
use Rattle.sea_tree.specs.Path.{LeafPath, IsLeafPath}
use Rattle.sea_tree.specs.Range.{is_above, entries_above, pairs_upto, BeginsBelow, IsNextPath}
use Rattle.sea_tree.proofs.Apart.{IsWithin-below}
use Rattle.sea_tree.proofs.Paths.{ComesDown-later, leads_name, next_lower}
use Rattle.sea_tree.proofs.Leaves.{known_find, known_empty}
use Rattle.sea_tree.proofs.Ranges.{upto_leaf, none_upto, no_pairs, above_is}

-- ---- the next path

pub next_path : (mid new : Seen) (root : ℕ) (key u : List ℕ) (path next : LeafPath) → OnlyRead mid new → IsLeafPath mid root key path → path.bounds.upper ≡ Some u → IsLeafPath new root u next → IsNextPath new root path next
next_path mid new root key u path next reads known upper further =
    let still : IsLeafPath new root key path = ComesDown-later reads known in record {
      key = u;
      upper = upper;
      lower = next_lower new.view still.top further.top root path.steps next.steps key u path.at next.at path.entries next.entries path.bounds next.bounds (still.descent, still.node, still.leads) (further.descent, further.node, further.leads) upper;
      known = further;
    }

-- ---- what a leaf adds

lower_within : (b : Bounds) (key : List ℕ) → LiesWithin key b → IsWithin b.lower b.upper
lower_within b key lies = by b.upper lies.1
  where
    by : (u : Option (List ℕ)) → IsWithin key u → IsWithin b.lower u
    by None h = tt
    by (Some u) h = not_above_then_below b.lower key u lies.0 h

module _ (old new : Seen) (root : ℕ) (reads : OnlyRead old new) (sound : IsSound new) (store : Store) (content : Values) (agrees : Agrees store new) (holds : HasContent (laid old store) root content) where
  leaf_upto : (after : Option (List ℕ)) (key : List ℕ) (path : LeafPath) → IsLeafPath new root key path → pairs_upto path.bounds.upper after content ≡ pairs_upto (Some path.bounds.lower) after content ++ entries_above after path.entries
  leaf_upto after key path known =
      upto_leaf after content path.bounds path.entries known.node.0.spells.node.rising known.node.1 (lower_within path.bounds key known.leads) (known_find old new root reads sound store content agrees holds key path known)

  -- a range begins with the pairs of its first leaf
  pub first_taken : (after : Option (List ℕ)) (path : LeafPath) → IsLeafPath new root (unwrap_or after (0 ∷ [])) path → pairs_upto path.bounds.upper after content ≡ entries_above after path.entries
  first_taken after path known =
      leaf_upto after (unwrap_or after (0 ∷ [])) path known ∙ ap (λ (es : List Entry). es ++ entries_above after path.entries) (none_upto after content path.bounds.lower (λ q v above has. IsNotAbove-trans path.bounds.lower (unwrap_or after (0 ∷ [])) q known.leads.0 (by after q v above has)))
    where
      less : (o : Ordering) → is_lt o ≡ true → o ≡ Less
      less Less e = refl
      less Equal e = absurd (cc)
      less Greater e = absurd (cc)

      by : (after : Option (List ℕ)) (q v : List ℕ) → is_above after q ≡ true → map.get content q ≡ Some v → IsNotAbove (unwrap_or after (0 ∷ [])) q
      by (Some bound) q v above has = IsNotAbove-below bound q (less _ above)
      by None q v above has =
          let leads = (holds.pairs q v).1 has in
          least_key q (leads_name (laid old store) leads.0 root q v leads.1)

  -- and goes on with those of the next
  pub next_taken : (after : Option (List ℕ)) (path next : LeafPath) → IsNextPath new root path next → pairs_upto next.bounds.upper after content ≡ pairs_upto path.bounds.upper after content ++ entries_above after next.entries
  next_taken after path next is =
      let joint : Some next.bounds.lower ≡ path.bounds.upper = ap Some is.lower ∙ sym is.upper in
      leaf_upto after is.key next is.known ∙ ap (λ (u : Option (List ℕ)). pairs_upto u after content ++ entries_above after next.entries) joint

  pub none_taken : (after : Option (List ℕ)) → IsKnown new root → new.view root ≡ None → pairs_above after content ≡ []
  none_taken after known none = sym (above_is after content) ∙ ap (entries_above after) (no_pairs content (known_empty old new root reads sound store content agrees holds known none))

-- ---- where a range begins

-- its bound, or the least key of all
pub first_is : (o : Option (Bor (List ℕ))) (d r : Bor (List ℕ)) (low : List ℕ) → r ≡ unwrap_or o d → d.now ≡ low → r.now ≡ unwrap_or (option_copied o) low
first_is None d r low e least = ap (λ (b : Bor (List ℕ)). b.now) e ∙ least
first_is (Some x) d r low e least = ap (λ (b : Bor (List ℕ)). b.now) e

-- and that each further leaf adds to it

pub begins_first : (seen : Seen) (root : ℕ) (after : Option (List ℕ)) (path : LeafPath) → IsLeafPath seen root (unwrap_or after (0 ∷ [])) path → BeginsBelow after path.bounds.upper
begins_first seen root None path known = tt
begins_first seen root (Some bound) path known = known.leads.1

pub begins_next : (seen : Seen) (root : ℕ) (after : Option (List ℕ)) (path next : LeafPath) → IsNextPath seen root path next → BeginsBelow after path.bounds.upper → BeginsBelow after next.bounds.upper
begins_next seen root None path next is begins = tt
begins_next seen root (Some bound) path next is begins =
    IsWithin-below bound is.key next.bounds.upper (subst (IsWithin bound) is.upper begins) is.known.leads.1

pub adds_some : (seen : Seen) (root : ℕ) (after : Option (List ℕ)) (path next : LeafPath) → IsNextPath seen root path next → BeginsBelow after path.bounds.upper → 1 ≤ length (entries_above after next.entries)
adds_some seen root after path next is begins = by next.entries is.known.node.0.spells.node.some is.known.node.1.lower
  where
    above : (after : Option (List ℕ)) (k : List ℕ) → BeginsBelow after path.bounds.upper → IsNotAbove next.bounds.lower k → is_above after k ≡ true
    above None k begins le = refl
    above (Some bound) k begins le = ap is_lt (below_then_not_above bound is.key k (subst (IsWithin bound) is.upper begins) (subst (λ (l : List ℕ). IsNotAbove l k) is.lower le))

    by : (es : List Entry) → 1 ≤ length es → All (λ (e : Entry). IsNotAbove next.bounds.lower e.0) es → 1 ≤ length (entries_above after es)
    by [] some all = absurd (omega arith)
    by (e ∷ es) some all = subst (λ (b : Bool). 1 ≤ length (cond b (e ∷ entries_above after es) (entries_above after es))) (sym (above after e.0 begins (all 0 e (omega arith)))) (omega arith)

pub grows : (limit : ℕ) (found own found' : List Entry) → found' ≡ take limit (found ++ own) → length found < limit → 1 ≤ length own → length found < length found'
grows limit found own found' is few some = omega (arith, ap length is, length-take limit (found ++ own), length-append found own)

-- what is taken stays taken
pub taken_on : (limit : ℕ) (found own full : List Entry) (all : List Entry) → found ≡ full → all ≡ full ++ own → take limit (found ++ own) ≡ take limit all
taken_on limit found own full all is more = ap (λ (es : List Entry). take limit (es ++ own)) is ∙ ap (take limit) (sym more)
