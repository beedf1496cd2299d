-- Late pieces, one after the other.
use Rattle.std.proofs.Common.{◌≡◌, ℕ, zero, suc, ◌+◌, ◌≤◌, List, [], ◌∷◌, ◌<◌, length, drop, get_or, Bor, Option, Some, None, refl, sym, ap, ◌∙◌, arith}
use Rattle.std.specs.Prelude.{slice_get, IfSome, MatchOption}
use Rattle.std.specs.List.{HoldsAt}
use Rattle.std.specs.Option.{option_copied}
use Rattle.std.proofs.lemmas.List.{drop-drop, drop_all}
use Rattle.std.proofs.lemmas.Option.{none-some, same_Some, slice_get_read}
use Rattle.sea_base.specs.declared.place.Commit.{Commit}
use Rattle.sea_pieces.specs.declared.piece.Piece.{Piece}
use Rattle.sea_pieces.specs.Committed.{VersionMap, with_piece, with_pieces}

pub first_late : (laid : ℕ) (pieces : List Piece) → slice_get pieces laid ≡ slice_get (drop laid pieces) 0
first_late zero pieces = refl
first_late (suc n) [] = refl
first_late (suc n) (p ∷ pieces) = first_late n pieces

-- one late piece less
pub passed_late : (laid : ℕ) (pieces : List Piece) → drop (laid + 1) pieces ≡ drop 1 (drop laid pieces)
passed_late laid pieces = sym (drop-drop 1 laid pieces)

pub none_passed : (laid : ℕ) (pieces : List Piece) → length pieces ≤ laid → drop laid pieces ≡ drop 1 (drop laid pieces)
none_passed laid pieces past = drop_all laid pieces past ∙ sym (ap (drop 1) (drop_all laid pieces past))

-- a late piece that is laid makes no other versions than all late ones do
pub laid_first : (last : Commit) (late : List Piece) (p : Piece) (m : VersionMap) → Some p ≡ slice_get late 0 → with_pieces last (drop 1 late) (with_piece last p m) ≡ with_pieces last late m
laid_first last [] p m is = absurd (none-some p (sym is))
laid_first last (q ∷ late) p m is = ap (λ (x : Piece). with_pieces last late (with_piece last x m)) (same_Some p q is)

pub none_late : (late : List Piece) → None ≡ slice_get late 0 → late ≡ []
none_late [] is = refl
none_late (p ∷ late) is = absurd (none-some p is)

past : (pieces : List Piece) (i : ℕ) → length pieces ≤ i → slice_get pieces i ≡ None
past [] i far = refl
past (p ∷ pieces) zero far = absurd (omega (arith, far))
past (p ∷ pieces) (suc i) far = past pieces i (omega (arith, far))

-- what a slice lends at a place
pub lent_at : (r : Option (Bor Piece)) (pieces : List Piece) (i : ℕ) → IfSome r (λ x. x.now ≡ get_or pieces i x.now) → MatchOption r (length pieces ≤ i) (λ x. (i < length pieces) × HoldsAt {X = Piece} (λ y. x.now ≡ y) pieces i) → option_copied r ≡ slice_get pieces i
lent_at None pieces i same far = sym (past pieces i far)
lent_at (Some x) pieces i same within = sym (slice_get_read pieces (length pieces) i x.now refl within.0 same)
