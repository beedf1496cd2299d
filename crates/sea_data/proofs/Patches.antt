-- How a block that is written in part comes to be written: amended where there is one, placed where there is none.
use Rattle.std.proofs.Common.{◌≡◌, ◌⊎◌, inl, inr, ℕ, zero, suc, ◌+◌, ◌-◌, ◌*◌, ◌/◌, ◌<◌, ◌≤◌, List, [], ◌∷◌, ◌++◌, length, Option, Some, None, refl, sym, ap, subst, ◌∙◌, arith}
use Rattle.std.specs.Prelude.{min, MatchOption}
use Rattle.std.proofs.lemmas.Bool.{cases_eq}
use Rattle.std.proofs.lemmas.List.{append-nil}
use Rattle.sea_base.specs.declared.delta.Delta.{Delta}
use Rattle.sea_base.specs.Space.{Store, Seen, Agrees, laid, OnlyRead, Writes}
use Rattle.sea_base.specs.Splice.{spliced}
use Rattle.sea_base.proofs.Spaces.{laid_here}
use Rattle.sea_data.specs.Bytes.{block_address}
use Rattle.sea_data.specs.Ranges.{Touches, Covers, HoldsOldEnd, IsAsBefore, ChangesBlocks}
use Rattle.sea_data.specs.Steps.{Does, Takes, Clears, LaysOver, ClearsOldEnd, Shows, laying, clearing, part_of, part_steps}
use Rattle.sea_data.specs.Steps.Edit.{Over, Clear}
use Rattle.sea_data.specs.Calls.{IsPlaced, MayClear, IsAmended}
use Rattle.sea_data.proofs.Bytes.{distinct}
use Rattle.sea_data.proofs.Taking.{leaves, grows_agrees, agrees_lay, shown, leaves_clear}
use Rattle.sea_data.proofs.Parts.{length-part_of, does_grows}
use Rattle.sea_data.proofs.Contents.{as_before_laid}
use Rattle.sea_data.proofs.Footprints.{as_before_same, changes_then, changes_one, is_placed, still_placed, Within, within_less}

as_before_read : {old new : Seen} → OnlyRead old new → (at : ℕ) → IsAsBefore old new at
as_before_read r at = record { changed = r.changed at; view = λ c. r.known at (inl c); whole = r.whole at; splices = r.splices at }

-- one splice more, or placed, by what stood there
abbrev PartForm : ℕ → Delta → Seen → Seen → Option (List ℕ) → Type 0
PartForm at delta old new None = IsPlaced at new
PartForm at delta old new (Some block) = (new.whole at ≡ old.whole at) × (new.splices at ≡ old.splices at ++ delta ∷ [])

form_since : (at : ℕ) (delta : Delta) (a b c : Seen) (found : Option (List ℕ)) → IsAsBefore a b at → PartForm at delta b c found → PartForm at delta a c found
form_since at delta a b c None same form = form
form_since at delta a b c (Some block) same form = (form.0 ∙ same.whole, form.1 ∙ ap (λ (ds : List Delta). ds ++ delta ∷ []) same.splices)

form_later : (at : ℕ) (delta : Delta) (a b c : Seen) (found : Option (List ℕ)) → IsAsBefore b c at → PartForm at delta a b found → PartForm at delta a c found
form_later at delta a b c None same form = still_placed same form
form_later at delta a b c (Some block) same form = (same.whole ∙ form.0, same.splices ∙ form.1)

lay_form : (at from : ℕ) (bytes : List ℕ) (old new : Seen) (found : Option (List ℕ)) → LaysOver at from bytes found old new → PartForm at (laying from bytes) old new found
lay_form at from bytes old new None lays = is_placed lays
lay_form at from bytes old new (Some block) lays = (lays.1.whole, lays.1.splices)

step_form : (at from : ℕ) (bytes : List ℕ) (old new : Seen) (store : Store) → (length bytes ≡ 4096 → ⊥) → Takes at (Over from bytes) old new → Agrees store new → PartForm at (laying from bytes) old new (laid old store at)
step_form at from bytes old new store short (inl whole) agrees = absurd (short whole.0)
step_form at from bytes old new store short (inr part) agrees =
    subst (PartForm at (laying from bytes) old new) (sym (shown part.3 store (agrees_lay at from bytes part.1 part.2 new store part.4 agrees)))
    (form_since at (laying from bytes) old part.2 new part.1 (as_before_read part.3.reads.only at) (lay_form at from bytes part.2 new part.1 part.4))

-- the blocks before one were written, and it is as it was
parts_below : (base offset : ℕ) (bytes : List ℕ) (n : ℕ) (old new : Seen) → Does (part_steps base offset bytes n) old new → ChangesBlocks base (λ j. j < offset / 4096 + n) old new
parts_below base offset bytes zero old new same = λ at. inr (as_before_same at same)
parts_below base offset bytes (suc n) old new does =
    changes_then base (λ (j : ℕ). j < offset / 4096 + n) (λ (j : ℕ). j < offset / 4096 + suc n) (λ (j : ℕ). j < offset / 4096 + suc n) (λ j h. omega arith) (λ j h. h)
    (parts_below base offset bytes n old does.0 does.1)
    (changes_one base (offset / 4096 + n) (λ (j : ℕ). j < offset / 4096 + suc n) (omega arith) (leaves (block_address base (offset / 4096 + n)) (Over (offset - 4096 * (offset / 4096 + n)) (part_of offset bytes (offset / 4096 + n))) does.2))

still_there : (base offset : ℕ) (bytes : List ℕ) (n : ℕ) (old new : Seen) → offset / 4096 + n < 4096 → Does (part_steps base offset bytes n) old new → IsAsBefore old new (block_address base (offset / 4096 + n))
still_there base offset bytes n old new small does =
    elim (parts_below base offset bytes n old new does (block_address base (offset / 4096 + n))) [
      | inl here ↦ absurd (let lt = here.1 in let same = distinct base (offset / 4096 + n) here.0 (omega arith) (omega arith) here.2 in omega arith)
      | inr same ↦ same
    ]

-- a part as long as its block is the whole of it
part_covers : (offset : ℕ) (bytes : List ℕ) (i : ℕ) → length (part_of offset bytes i) ≡ 4096 → Covers offset (offset + length bytes) i
part_covers offset bytes i long =
    let l : length (part_of offset bytes i) ≡ min (4096 * (i + 1) - offset) (length bytes) - (4096 * i - offset) = length-part_of offset bytes i in
    (omega arith, omega arith)

pub parts_form : (base offset : ℕ) (bytes : List ℕ) (n : ℕ) (old new : Seen) (store : Store) → offset + length bytes ≤ 16777216 → Within offset (offset + length bytes) n → Does (part_steps base offset bytes n) old new → Agrees store new
    → (i : ℕ) → Touches offset (offset + length bytes) i → (Covers offset (offset + length bytes) i → ⊥) → i < offset / 4096 + n
    → PartForm (block_address base i) (laying (offset - 4096 * i) (part_of offset bytes i)) old new (laid old store (block_address base i))
parts_form base offset bytes zero old new store limit w same agrees i touches uncovered lt = absurd (let from = touches.2 in omega arith)
parts_form base offset bytes (suc n) old new store limit w does agrees i touches uncovered lt =
    let begins = touches.1 in
    let bound = w.1 in
    let l = leaves (block_address base (offset / 4096 + n)) (Over (offset - 4096 * (offset / 4096 + n)) (part_of offset bytes (offset / 4096 + n))) does.2 in
    elim (cases_eq i (offset / 4096 + n)) [
      | inl same ↦ subst (λ (k : ℕ). PartForm (block_address base k) (laying (offset - 4096 * k) (part_of offset bytes k)) old new (laid old store (block_address base k))) (sym same)
          (let was : IsAsBefore old does.0 (block_address base (offset / 4096 + n)) = still_there base offset bytes n old does.0 (omega arith) does.1 in
          form_since (block_address base (offset / 4096 + n)) (laying (offset - 4096 * (offset / 4096 + n)) (part_of offset bytes (offset / 4096 + n))) old does.0 new (laid old store (block_address base (offset / 4096 + n))) was
          (subst (PartForm (block_address base (offset / 4096 + n)) (laying (offset - 4096 * (offset / 4096 + n)) (part_of offset bytes (offset / 4096 + n))) does.0 new) (as_before_laid was store)
          (step_form (block_address base (offset / 4096 + n)) (offset - 4096 * (offset / 4096 + n)) (part_of offset bytes (offset / 4096 + n)) does.0 new store
          (λ long. uncovered (subst (Covers offset (offset + length bytes)) (sym same) (part_covers offset bytes (offset / 4096 + n) long))) does.2 agrees)))
      | inr other ↦ form_later (block_address base i) (laying (offset - 4096 * i) (part_of offset bytes i)) old does.0 new (laid old store (block_address base i))
          (l.others (block_address base i) (λ same. other (distinct base i (offset / 4096 + n) (omega arith) (omega arith) same)))
          (parts_form base offset bytes n old does.0 store limit (within_less offset (offset + length bytes) n w) does.1 (grows_agrees does.0 new store l.grows agrees) i touches uncovered (omega arith))
    ]

-- a block stands before and after, or in neither
abbrev StandsStill : Option (List ℕ) → Option (List ℕ) → Type 0
StandsStill None after = after ≡ None
StandsStill (Some block) after = (other : List ℕ) × (after ≡ Some other)

stands : (before after : Option (List ℕ)) → after ≡ before → StandsStill before after
stands None after same = same
stands (Some block) after same = (block, same)

-- How the zeroing of the bytes past an old end leaves a block.
record IsLed (size to i at : ℕ) (store : Store) (old new : Seen) : Type 0 where
  lead : List Delta
  may : MayClear size to i lead
  whole : new.whole at ≡ old.whole at
  splices : new.splices at ≡ old.splices at ++ lead
  stays : StandsStill (laid old store at) (laid new store at)

led_none : (size to i at : ℕ) (store : Store) (old new : Seen) → IsAsBefore old new at → IsLed size to i at store old new
led_none size to i at store old new same = record {
  lead = [];
  may = inl refl;
  whole = same.whole;
  splices = same.splices ∙ sym (append-nil (old.splices at));
  stays = stands (laid old store at) (laid new store at) (as_before_laid same store);
}

led_clears : (size to i at : ℕ) (store : Store) (found : Option (List ℕ)) (old between new : Seen) → HoldsOldEnd size to i → Shows at found old between → laid old store at ≡ found → Clears at (size - 4096 * i) found between new → IsLed size to i at store old new
led_clears size to i at store None old between new holds shows is clears =
    led_none size to i at store old new (subst (λ (s : Seen). IsAsBefore old s at) (sym clears) (as_before_read shows.reads.only at))
led_clears size to i at store (Some block) old between new holds shows is (inl kept) =
    led_none size to i at store old new (subst (λ (s : Seen). IsAsBefore old s at) (sym kept.0) (as_before_read shows.reads.only at))
led_clears size to i at store (Some block) old between new holds shows is (inr cleared) = record {
  lead = clearing (size - 4096 * i) ∷ [];
  may = inr (holds, refl);
  whole = cleared.1.1.whole ∙ shows.reads.only.whole at;
  splices = cleared.1.1.splices ∙ ap (λ (ds : List Delta). ds ++ clearing (size - 4096 * i) ∷ []) (shows.reads.only.splices at);
  stays = subst (λ (o : Option (List ℕ)). StandsStill o (laid new store at)) (sym is) (laid_stands cleared.1.1.writes);
}
  where
    laid_stands : Writes at (Some (spliced (size - 4096 * i) (4096 - (size - 4096 * i)) [] block)) between new → (other : List ℕ) × (laid new store at ≡ Some other)
    laid_stands w = (spliced (size - 4096 * i) (4096 - (size - 4096 * i)) [] block, laid_here w store)

led : (base size from to i : ℕ) (store : Store) (old new : Seen) → size ≤ 16777216 ⊎ (to ≤ 16777216) → i < 4096 → ClearsOldEnd base size from to old new → Agrees store new → IsLed size to i (block_address base i) store old new
led base size from to i store old new limit small (inl kept) agrees = led_none size to i (block_address base i) store old new (as_before_same (block_address base i) kept.0)
led base size from to i store old new limit small (inr c) agrees =
    let h0 = c.1.0 in
    let h1 = c.1.1 in
    let bound : 4096 * c.0 < 16777216 = elim limit [ inl a ↦ omega arith | inr b ↦ omega arith ] in
    elim (cases_eq i c.0) [
      | inl same ↦ subst (λ (k : ℕ). IsLed size to k (block_address base k) store old new) (sym same)
          (led_clears size to c.0 (block_address base c.0) store c.3.0 old c.3.1 new c.1 c.3.2 (shown c.3.2 store (grows_agrees c.3.1 new store (leaves_clear (block_address base c.0) (size - 4096 * c.0) c.3.0 c.3.3).grows agrees)) c.3.3)
      | inr other ↦ led_none size to i (block_address base i) store old new
          ((leaves (block_address base c.0) (Clear (size - 4096 * c.0)) c.3).others (block_address base i) (λ same. other (distinct base i c.0 (omega arith) (omega arith) same)))
    ]

joined : (size to i at : ℕ) (store : Store) (delta : Delta) (old between new : Seen) → IsLed size to i at store old between → (before after : Option (List ℕ)) → StandsStill before after → PartForm at delta between new after
    → MatchOption before (IsPlaced at new) (λ block. IsAmended size to i at delta old new)
joined size to i at store delta old between new l None after stays form = subst (PartForm at delta between new) stays form
joined size to i at store delta old between new l (Some block) after stays form =
    let told : PartForm at delta between new (Some stays.0) = subst (PartForm at delta between new) stays.1 form in
    record { lead = l.lead; may = l.may; whole = told.0 ∙ l.whole; splices = told.1 ∙ ap (λ (ds : List Delta). ds ++ delta ∷ []) l.splices }

pub part_form : (base size offset : ℕ) (bytes : List ℕ) (n : ℕ) (old between new : Seen) → offset + length bytes ≤ 16777216 → Within offset (offset + length bytes) n
    → ClearsOldEnd base size offset (offset + length bytes) old between → Does (part_steps base offset bytes n) between new
    → (i : ℕ) → Touches offset (offset + length bytes) i → (Covers offset (offset + length bytes) i → ⊥) → i < offset / 4096 + n
    → (store : Store) → Agrees store new
    → MatchOption (laid old store (block_address base i)) (IsPlaced (block_address base i) new) (λ block. IsAmended size (offset + length bytes) i (block_address base i) (laying (offset - 4096 * i) (part_of offset bytes i)) old new)
part_form base size offset bytes n old between new limit w cleared does i touches uncovered lt store agrees =
    let begins = touches.1 in
    let middle : Agrees store between = grows_agrees between new store (does_grows (part_steps base offset bytes n) between new does) agrees in
    let l = led base size offset (offset + length bytes) i store old between (inr limit) (omega arith) cleared middle in
    joined size (offset + length bytes) i (block_address base i) store (laying (offset - 4096 * i) (part_of offset bytes i)) old between new l (laid old store (block_address base i)) (laid between store (block_address base i)) l.stays
    (parts_form base offset bytes n between new store limit w does agrees i touches uncovered lt)
