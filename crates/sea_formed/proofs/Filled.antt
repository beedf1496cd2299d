-- The addresses that are filled are the keys of the map of blocks.
use Rattle.std.proofs.Common.{◌≡◌, ◌≢◌, ℕ, List, Option, Some, None, sym, subst, refl}
use Rattle.std.specs.Prelude.{◌↔◌}
use Rattle.std.specs.List.{Contains}
use Rattle.std.specs.Option.{IsSome}
use Rattle.std.specs.Cmp.{nat_cmp_total}
use Rattle.std.specs.BTreeMap.{keys}
use Rattle.std.proofs.lemmas.Map.Views.{btree_map_contains_key_iff}
use Rattle.std.proofs.lemmas.Map.Lookups.{exact_unsigned}
use Rattle.sea_formed.specs.declared.blocks.Blocks.{Blocks}
use Rattle.sea_formed.specs.Blocks.{store_of}

some_filled : {X : Type 0} (o : Option X) → IsSome o ↔ (o ≢ None)
some_filled None = (λ h. absurd cc, λ filled. absurd (filled refl))
some_filled (Some x) = (λ h e. cc, λ filled. refl)

pub filled_keys : (blocks : Blocks) (found : List ℕ) → found ≡ keys blocks.blocks → (at : ℕ) → Contains found at ↔ (store_of blocks at ≢ None)
filled_keys blocks found same at =
    let both = btree_map_contains_key_iff nat_cmp_total exact_unsigned blocks.blocks at in
    let some = some_filled (store_of blocks at) in (
      λ has. some.0 (both.1 (subst (λ (ks : List ℕ). Contains ks at) same has)),
      λ filled. subst (λ (ks : List ℕ). Contains ks at) (sym same) (both.0 (some.1 filled)),
    )
