-- The words of the library's cache, and those of this crate.
use Rattle.std.proofs.Common.{◌≡◌, ℕ, true, false, cond, List, [], ◌∷◌, Option, Some, None, is_some, nat_eq, refl, sym, ap}
use Rattle.std.proofs.lemmas.Bool.{eqb-true, eq-eqb}
use Rattle.std.specs.Option.{option_map_or}
use Rattle.std.specs.Map.{lookup, lookup_entry}
use Rattle.sea_cache.specs.Cache.{Clean}

-- the entry that a place leads to is that place's, with its block
pub used_first : (at : ℕ) (rest all es : Clean) →
    option_map_or (λ e. e ∷ rest) (lookup_entry (nat_eq at) es) all ≡
    option_map_or (λ block. (at, block) ∷ rest) (lookup (nat_eq at) es) all
used_first at rest all [] = refl
used_first at rest all (f ∷ es) =
    (elim (nat_eq at f.0) as (λ y. nat_eq at f.0 ≡ y →
    option_map_or (λ e. e ∷ rest) (cond y (Some f) (lookup_entry (nat_eq at) es)) all ≡
    option_map_or (λ block. (at, block) ∷ rest) (cond y (Some f.1) (lookup (nat_eq at) es)) all) [
      | true ↦ λ same. ap (λ place. (place, f.1) ∷ rest) (sym (eqb-true at f.0 same))
      | false ↦ λ _. used_first at rest all es
    ]) refl

-- a block that is put takes the place of the one that was there
pub kept_first : (at : ℕ) (block : List ℕ) (rest cut es : Clean) →
    option_map_or (λ e. (e.0, block) ∷ rest) (lookup_entry (nat_eq at) es) ((at, block) ∷ cut) ≡
    (at, block) ∷ cond (is_some (lookup (nat_eq at) es)) rest cut
kept_first at block rest cut [] = refl
kept_first at block rest cut (f ∷ es) =
    (elim (nat_eq at f.0) as (λ y. nat_eq at f.0 ≡ y →
    option_map_or (λ e. (e.0, block) ∷ rest) (cond y (Some f) (lookup_entry (nat_eq at) es)) ((at, block) ∷ cut) ≡
    (at, block) ∷ cond (is_some (cond y (Some f.1) (lookup (nat_eq at) es))) rest cut) [
      | true ↦ λ same. ap (λ place. (place, block) ∷ rest) (sym (eqb-true at f.0 same))
      | false ↦ λ _. kept_first at block rest cut es
    ]) refl

-- what was used is found first
pub used_found : (at : ℕ) (rest es : Clean) (found : Option (List ℕ)) → lookup (nat_eq at) es ≡ found →
    lookup (nat_eq at) (option_map_or (λ block. (at, block) ∷ rest) found es) ≡ found
used_found at rest es None is = is
used_found at rest es (Some block) is = rw (eqb_same at) refl
  where
    eqb_same : (n : ℕ) → nat_eq n n ≡ true
    eqb_same n = eq-eqb n n refl
