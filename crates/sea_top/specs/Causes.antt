-- Why each status comes, over any device, source and sink.
use Rattle.std.specs.Prelude.{◌≡◌, ◌⊎◌, ℕ, List, [], ◌∷◌, codes, Option, IfSome}
use Rattle.sea_device.specs.Device.{FaultsRose}
use Rattle.sea_plain_script.specs.declared.plan.Asked.{Asked}
use Rattle.sea_plain_script.specs.Script.{IsScript}

-- the words are the one word `steps`
abbrev pub IsSteps : List (List ℕ) → Type 0
IsSteps words = words ≡ codes "steps" ∷ []

abbrev pub IsAnyScript : List ℕ → Type 0
IsAnyScript input = (plan : List Asked) × IsScript input plan

-- Each status has its cause: the words, the input, or a count of faults that rose; want of memory alone is free.
pub record Causes {D : Type 0} (words : List (List ℕ)) (input : Option (List ℕ)) (device_before device_now source_before source_now sink_before sink_now status : ℕ) (old new : D) : Type 0 where
  pub known : (status ≡ 0) ⊎ ((status ≡ 1) ⊎ ((status ≡ 2) ⊎ ((status ≡ 3) ⊎ ((status ≡ 5) ⊎ ((status ≡ 6) ⊎ (status ≡ 7))))))
  pub usage : status ≡ 1 → IsSteps words → ⊥
  pub script : status ≡ 2 → IsSteps words × IfSome input (λ bytes. IsAnyScript bytes → ⊥)
  pub device : status ≡ 3 → FaultsRose device_before device_now
  pub source : status ≡ 6 → FaultsRose source_before source_now
  pub sink : status ≡ 7 → FaultsRose sink_before sink_now
  -- where the words or the input are refused, no other answer comes but for a fault or want of memory
  pub only_usage : (IsSteps words → ⊥) → (status ≡ 1) ⊎ ((status ≡ 5) ⊎ (status ≡ 7))
  pub only_script : IfSome input (λ bytes. (IsAnyScript bytes → ⊥) → (status ≡ 0 → ⊥) × (status ≡ 3 → ⊥))
  -- what the words or the input refuse changes no device
  pub untouched : (status ≡ 1) ⊎ ((status ≡ 2) ⊎ (status ≡ 6)) → new ≡ old

-- Why a status comes of a plan that was read: a count of faults rose, or memory ran out.
pub record ComesOf (device_before device_now sink_before sink_now status : ℕ) : Type 0 where
  pub known : (status ≡ 0) ⊎ ((status ≡ 3) ⊎ ((status ≡ 5) ⊎ (status ≡ 7)))
  pub device : status ≡ 3 → FaultsRose device_before device_now
  pub sink : status ≡ 7 → FaultsRose sink_before sink_now
