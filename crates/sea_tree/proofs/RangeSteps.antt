-- What a range has taken when a cursor stands at a leaf, and at the next one.
use Rattle.std.proofs.Common.{◌≡◌, ℕ, ◌<◌, ◌≤◌, List, [], ◌∷◌, ◌++◌, length, take, Option, MatchOption, sym, ap, subst, ◌∙◌, arith, length-take}
use Rattle.std.specs.Option.{unwrap_or}
use Rattle.std.specs.List.{All}
use Rattle.std.proofs.lemmas.List.Elements.{All-nil}
use Rattle.sea_base.specs.Space.{Store, Seen, IsSound, Agrees, OnlyRead, laid}
use Rattle.sea_base.proofs.Spaces.{only_read-trans, agrees_before}
use Rattle.sea_node.specs.Entries.{Entry, Values}
use Rattle.sea_tree.specs.Tree.{IsWithin}
use Rattle.sea_tree.specs.Content.{HasContent}
use Rattle.sea_tree.specs.Calls.{AreWholePaths}
use Rattle.sea_tree.specs.Path.{LeafPath, IsLeafPath}
use Rattle.sea_tree.specs.Range.{BeginsBelow, IsNextPath, entries_above, pairs_upto}
use Rattle.sea_tree.specs.Reads.{ReadsPath, ReadsNothing}
use Rattle.sea_tree.proofs.Ranges.{all_taken}
use Rattle.sea_tree.proofs.Taking.{first_taken, next_taken, begins_first, begins_next, adds_some, grows, taken_on}
use Rattle.sea_tree.proofs.WholePaths.{ReadsUpto, whole_first, whole_next, begun_first, begun_next, range_first, range_next, taken_within, within_next}

-- the key that a range begins at
abbrev pub begin : Option (List ℕ) → List ℕ
begin after = unwrap_or after (0 ∷ [])

-- What a range has found up to the upper bound of a path's leaf.
pub record HasTaken (root : ℕ) (after : Option (List ℕ)) (limit : ℕ) (found : List Entry) (old new : Seen) (path : LeafPath) : Type 0 where
  pub begins : BeginsBelow after path.bounds.upper
  pub whole : AreWholePaths root (begin after) path.bounds.upper old new
  pub begun : IsWithin (begin after) path.bounds.upper
  pub within : All (λ e. IsWithin e.0 path.bounds.upper) found
  pub range : ReadsUpto root (begin after) limit found path.bounds.upper old new
  pub count : length found ≤ limit
  pub taken : (store : Store) (content : Values) → Agrees store new → HasContent (laid old store) root content → found ≡ take limit (pairs_upto path.bounds.upper after content)

counted : (limit : ℕ) (found all : List Entry) → found ≡ take limit all → length found ≤ limit
counted limit found all is = omega (arith, ap length is, length-take limit all)

pub taken_first : (root : ℕ) (after : Option (List ℕ)) (limit : ℕ) (found : List Entry) (old new : Seen) (path : LeafPath) → OnlyRead old new → IsSound new → 0 < limit → IsLeafPath new root (begin after) path → found ≡ take limit ([] ++ entries_above after path.entries)
    → ReadsPath root (begin after) old new → HasTaken root after limit found old new path
taken_first root after limit found old new path reads sound wanting known is on_path = record {
  begins = begins_first new root after path known;
  whole = whole_first old new root reads sound (begin after) path known;
  begun = begun_first new root (begin after) path known;
  within = subst (All (λ e. IsWithin e.0 path.bounds.upper)) (sym is) (taken_within new root (begin after) path limit after [] known (All-nil (λ (e : Entry). IsWithin e.0 path.bounds.upper)));
  range = range_first root after limit found old new path wanting known is on_path;
  count = counted limit found ([] ++ entries_above after path.entries) is;
  taken = λ store content agrees holds. is ∙ ap (take limit) (sym (first_taken old new root reads sound store content agrees holds after path known));
}

module _ (root : ℕ) (after : Option (List ℕ)) (limit : ℕ) (found taken : List Entry) (old mid new : Seen) (path next : LeafPath) (first : OnlyRead old mid) (rest : OnlyRead mid new) (sound : IsSound new) (before : HasTaken root after limit found old mid path) (is : IsNextPath new root path next)
    (few : length found < limit) (more : taken ≡ take limit (found ++ entries_above after next.entries)) where
  reads : OnlyRead old new
  reads = only_read-trans first rest

  pub taken_next : MatchOption path.bounds.upper (ReadsNothing mid new) (λ key. ReadsPath root key mid new) → HasTaken root after limit taken old new next
  taken_next on_path = record {
    begins = begins_next new root after path next is before.begins;
    whole = whole_next old new root reads sound mid (begin after) path next rest before.whole is;
    begun = begun_next new root (begin after) path next is before.begun;
    within = subst (All (λ e. IsWithin e.0 next.bounds.upper)) (sym more) (taken_within new root is.key next limit after found is.known (within_next new root path next found is before.within));
    range = range_next root (begin after) after limit found taken old mid new path next first rest is before.begun before.within few more before.range on_path;
    count = counted limit taken (found ++ entries_above after next.entries) more;
    taken = λ store content agrees holds.
        let so_far = before.taken store content (agrees_before rest agrees) holds in
        let all = all_taken limit (pairs_upto path.bounds.upper after content) found so_far few in
        more ∙ taken_on limit found (entries_above after next.entries) (pairs_upto path.bounds.upper after content) (pairs_upto next.bounds.upper after content) all (next_taken old new root reads sound store content agrees holds after path next is);
  }

  pub taken_more : length found < length taken
  taken_more = grows limit found (entries_above after next.entries) taken more few (adds_some new root after path next is before.begins)
