-- The headline, from how a command ended.
use Rattle.std.proofs.Common.{◌≡◌, ◌⊎◌, ℕ, List, [], refl, sym, ◌∙◌, arith, inl, inr}
use Rattle.std.specs.Prelude.{Option, Some, None, MatchOption}
use Rattle.std.specs.FinMap as map
use Rattle.sea_plain_script.specs.declared.plan.Asked.{Asked}
use Rattle.sea_top.specs.declared.refusal.Refusal.{Refusal}
use Rattle.sea_top.specs.declared.refusal.Refusal.TheVariants.{Usage, Script, DeviceFault, NoMemory, ReadFault}
use Rattle.sea_top.specs.Crash.{IsUnwritten}
use Rattle.sea_top.specs.Headline.{Comes, Headline, IsOver, IsRefusedFor, Prints, not_opened, served, refused, ran, whole, nothing, front, EndsRun}
use Rattle.sea_top.specs.History.{none}
use Rattle.sea_top.specs.Planning.{IsNoPlan}
use Rattle.sea_top.specs.Refusal.{status_of, ending_line}
use Rattle.sea_plain_script.specs.Script.{IsScript}
use Rattle.sea_top.specs.Trail.{objects_of}

-- a refusal is no success
pub refusal_status : (refusal : Refusal) → status_of refusal ≡ 0 → ⊥
refusal_status Usage e = omega arith
refusal_status (Script line why) e = omega arith
refusal_status DeviceFault e = omega arith
refusal_status NoMemory e = omega arith
refusal_status ReadFault e = omega arith

-- nor is what prints one
pub refused_not : (text : Option Refusal → List ℕ) (refusal : Refusal) (status : ℕ) (printed : List ℕ) → Prints text (Some refusal) status printed → status ≡ 0 → ⊥
refused_not text refusal status printed (whole is spelled) zero = refusal_status refusal (sym is ∙ zero)
refused_not text refusal status printed (nothing five empty) zero = omega arith
refused_not text refusal status printed (front seven rest spelled) zero = omega arith

-- a status 0 is that of no ending
none_ended : (text : Option Refusal → List ℕ) (ending : Option Refusal) (status : ℕ) (printed : List ℕ) → Prints text ending status printed → status ≡ 0 → ending ≡ None
none_ended text None status printed prints zero = refl
none_ended text (Some refusal) status printed prints zero =
    absurd (refused_not text refusal status printed prints zero)

module _ (input image : List ℕ) (blocks status : ℕ) (printed : List ℕ) (unread contents : Option (List ℕ)) (leaves before : List ℕ → Type 0) (start now : ℕ) (since : ℕ → List ℕ → Type 0) where
  -- where nothing was served, only the refusal's line tells
  pub headline_refused : (refusal : Refusal) → IsRefusedFor input refusal → IsUnwritten image contents leaves before (since start) → Prints ending_line (Some refusal) status printed → Headline input image blocks status printed unread contents leaves before start now since
  headline_refused refusal for unwritten prints = record {
    plan = [];
    history = [];
    acknowledged = 0;
    first = map.empty;
    last = map.empty;
    script = inl refl;
    over = inl refl;
    legal = none;
    serves = record { numbered = λ c. refl; asked = λ c. omega arith };
    tells = refused refusal refl for prints;
    served = λ zero. absurd (refused_not ending_line refusal status printed prints zero);
    crash = inl (refl, unwritten);
  }

  pub headline_served : (plan : List Asked) → IsScript input plan → unread ≡ Some [] → Comes plan image blocks status printed contents leaves before start now since → Headline input image blocks status printed unread contents leaves before start now since
  headline_served plan script read (not_opened refusal why unwritten prints) =
      headline_refused refusal (free refusal why) unwritten prints
    where
      free : (refusal : Refusal) → (refusal ≡ NoMemory) ⊎ (refusal ≡ DeviceFault) → IsRefusedFor input refusal
      free Usage (inl e) = absurd cc
      free Usage (inr e) = absurd cc
      free (Script line w) (inl e) = absurd cc
      free (Script line w) (inr e) = absurd cc
      free DeviceFault why = tt
      free NoMemory why = tt
      free ReadFault why = tt
  headline_served plan script read (served history acknowledged ending serving ends prints) =
      let over : IsOver image blocks plan (objects_of serving.records) history = record { records = serving.records; trail = serving.trail; objects_are = refl; left = serving.left; room = serving.room } in
      record {
        plan = plan;
        history = history;
        acknowledged = acknowledged;
        first = objects_of serving.records;
        last = serving.last;
        script = inr script;
        over = inr over;
        legal = serving.legal;
        serves = serving.serves;
        tells = ran ending script ends prints;
        served = λ zero.
            let no_ending = none_ended _ ending status printed prints zero in
            record { script = script; read = read; over = over; all = serving.all no_ending; fully = serving.fully no_ending; kept = serving.kept no_ending };
        crash = inr serving.crash;
      }

-- why a run is said to have ended is what may end it
pub ends_run : (All Rose : Type 0) (ending : Option Refusal) → MatchOption ending All (λ refusal. (refusal ≡ NoMemory) ⊎ ((refusal ≡ DeviceFault) × Rose)) → EndsRun ending
ends_run All Rose None all = tt
ends_run All Rose (Some refusal) (inl memory) = inl memory
ends_run All Rose (Some refusal) (inr fault) = inr fault.0

-- why no plan was read is why the line is printed
pub refused_for : (input : List ℕ) (before now : ℕ) (refusal : Refusal) → IsNoPlan (Some input) before now refusal → IsRefusedFor input refusal
refused_for input before now Usage no_plan = no_plan
refused_for input before now (Script line why) no_plan = no_plan.0
refused_for input before now DeviceFault no_plan = tt
refused_for input before now NoMemory no_plan = tt
refused_for input before now ReadFault no_plan = tt
