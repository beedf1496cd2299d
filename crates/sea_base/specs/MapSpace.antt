-- What a space in memory shows.
use Rattle.std.specs.Prelude.{◌≡◌, ℕ, List, [], false, true, Option, Some, None, is_some, ◌||◌, if◌then◌else◌}
use Rattle.std.proofs.Common.{refl, sym, ap, inl, ◌∙◌}
use Rattle.std.proofs.lemmas.Bool.{true≢false}
use Rattle.std.proofs.lemmas.Option.{cond_some}
use Rattle.std.specs.Option.{option_map}
use Rattle.std.specs.Ordering.{nat_cmp}
use Rattle.std.specs.BTreeMap.{get}
use Rattle.std.specs.BTreeSet.{contains}
use Rattle.sea_base.specs.declared.delta.Delta.{Delta}
use Rattle.sea_base.specs.declared.map_space.MapSpace.{MapSpace}
use Rattle.sea_base.specs.declared.map_space.Placed.{Placed}
use Rattle.sea_base.specs.Calls.{IsFrame}
use Rattle.sea_base.specs.Space.{Seen, Found, block_found, IsSound, ShowsCurrent, all_spliced, are_some}

-- the block at an address that was placed, or nothing
abbrev pub block_placed : Option Placed → Option (List ℕ)
block_placed None = None
block_placed (Some placed) = placed.block

-- its splices since
abbrev pub splices_since : Option Placed → List Delta
splices_since None = []
splices_since (Some placed) = placed.splices

-- Its changes stand there, and nothing else does: a read of an address that wasn't changed finds nothing.
abbrev pub seen_of : MapSpace → Seen
seen_of space = record {
  view = λ at. block_placed (get nat_cmp space.changes at);
  reads = λ at. if contains nat_cmp space.reads at then Some None else None;
  changed = λ at. is_some (get nat_cmp space.changes at);
  whole = λ at. is_some (get nat_cmp space.changes at);
  splices = λ at. splices_since (get nat_cmp space.changes at);
  next = space.next;
}

-- nothing lies under it
abbrev pub none_current : MapSpace → ℕ → Found
none_current space at = None

-- the gets that fail stay listed
abbrev pub KeepsListed : MapSpace → MapSpace → Type 0
KeepsListed old new = new.gets.listed ≡ old.gets.listed

-- nothing is filled, read or changed
pub record IsBlank (seen : Seen) : Type 0 where
  pub view : (at : ℕ) → seen.view at ≡ None
  pub reads : (at : ℕ) → seen.reads at ≡ None
  pub changed : (at : ℕ) → seen.changed at ≡ false

-- what was found at an address that wasn't changed, nothing, stands there
pub seen_sound : (space : MapSpace) → IsSound (seen_of space)
seen_sound space = record {
  found = λ at found read unchanged.
      nothing (get nat_cmp space.changes at) unchanged
      ∙ ap (λ (f : Found). option_map (all_spliced (splices_since (get nat_cmp space.changes at))) (block_found f)) (cond_some (contains nat_cmp space.reads at) None found read).1;
  changed = λ at. placed (get nat_cmp space.changes at);
  amended = λ at yes no. absurd (true≢false (sym yes ∙ no));
}
  where
    nothing : (o : Option Placed) → is_some o ≡ false → block_placed o ≡ None
    nothing None e = refl
    nothing (Some x) e = absurd (true≢false e)

    placed : (o : Option Placed) → is_some o ≡ (is_some o || are_some (splices_since o))
    placed None = refl
    placed (Some x) = refl

pub map_frame : IsFrame none_current KeepsListed
map_frame = record {
  reflexive = λ s. refl;
  transitive = λ a b c first later. later ∙ first;
  shared = λ a b kept at. refl;
}

pub shows_nothing : (space : MapSpace) → ShowsCurrent (none_current space) (seen_of space)
shows_nothing space at unknown = nothing (get nat_cmp space.changes at) (λ yes. unknown (inl yes))
  where
    nothing : (o : Option Placed) → (is_some o ≡ true → ⊥) → block_placed o ≡ None
    nothing None unplaced = refl
    nothing (Some x) unplaced = absurd (unplaced refl)
