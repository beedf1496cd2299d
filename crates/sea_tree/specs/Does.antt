-- What calls have done to a transaction's view, as the blocks laid over it.
use Rattle.std.specs.Prelude.{◌≡◌, ◌≢◌, ◌⊎◌, ℕ, ◌≤◌, List, [], ◌∷◌, ◌++◌, Bool, true, false, ◌==◌, ◌||◌, Option, Some, None, length, if◌then◌else◌}
use Rattle.std.specs.List.{Contains}
use Rattle.sea_base.specs.declared.delta.Delta.{Delta}
use Rattle.sea_base.specs.Space.{Store, Seen, Found, IsKnown}

-- blocks put under addresses, or nothing left there, the latest first
abbrev pub Change : Type 0
Change = ℕ × Option (List ℕ)

-- a store with them laid over it
abbrev pub overlaid : List Change → Store → Store
overlaid [] store q = store q
overlaid (change ∷ changes) store q = if q == change.0 then change.1 else overlaid changes store q

-- an address is among them
abbrev pub is_among : List Change → ℕ → Bool
is_among [] q = false
is_among (change ∷ changes) q = q == change.0 || is_among changes q

-- These changes were made, and addresses were read; what was known stays known.
pub record Does (changes : List Change) (old new : Seen) : Type 0 where
  pub reads : (at : ℕ) (found : Found) → old.reads at ≡ Some found → new.reads at ≡ Some found
  pub changed : (q : ℕ) → new.changed q ≡ (is_among changes q || old.changed q)
  pub view : (q : ℕ) → (is_among changes q ≡ true) ⊎ IsKnown old q
      → new.view q ≡ overlaid changes old.view q
  pub whole : (q : ℕ) → is_among changes q ≡ false → new.whole q ≡ old.whole q
  pub splices : (q : ℕ) → is_among changes q ≡ false → new.splices q ≡ old.splices q
  pub next : old.next ≤ new.next

-- what the transaction had changed at an address is as it was
pub record IsAsBefore (old new : Seen) (at : ℕ) : Type 0 where
  pub changed : new.changed at ≡ old.changed at
  pub view : old.changed at ≡ true → new.view at ≡ old.view at

-- At most so many addresses were changed and are filled still.
abbrev pub ChangesAtMost : ℕ → Seen → Seen → Type 0
ChangesAtMost count old new =
    (places : List ℕ) × (length places ≤ count)
    × ((at : ℕ)
    → Contains places at ⊎ (((new.changed at ≡ true) × (new.view at ≡ None))
    ⊎ IsAsBefore old new at))

-- what was written was placed whole, or dropped
abbrev pub ArePlaced : List Change → Seen → Type 0
ArePlaced changes new = (q : ℕ) → is_among changes q ≡ true → new.splices q ≡ []

-- At most one splice was made, with at most so many bytes. What else was written was placed whole,
-- or dropped.
pub record SplicesOnce (bytes : ℕ) (old new : Seen) : Type 0 where
  pub place : ℕ
  pub others : (at : ℕ) → at ≢ place → (new.splices at ≡ old.splices at) ⊎ (new.splices at ≡ [])
  pub here : (new.splices place ≡ old.splices place) ⊎ ((new.splices place ≡ [])
      ⊎ ((delta : Delta) × (new.splices place ≡ old.splices place ++ delta ∷ [])
      × (length delta.put ≤ bytes)))
