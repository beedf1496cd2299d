-- Calls of a space, one after the other.
use Rattle.std.proofs.Common.{◌≡◌, ◌⊎◌, inl, inr, ℕ, ◌≤◌, Bool, true, IsTrue, Option, Some, None, refl, sym, ap, subst, ◌∙◌, arith}
use Rattle.sea_base.specs.declared.space.SpaceFault.{SpaceFault}
use Rattle.sea_base.specs.declared.space.SpaceFault.TheVariants.{NoMemory, DeviceFault, Damaged}
use Rattle.sea_base.specs.declared.space.Space.{Ghosts}
use Rattle.sea_base.specs.Calls.{Continues, IsFrame}
use Rattle.sea_base.specs.Faults.{IsCause}
use Rattle.sea_base.specs.Ghosts.{IsReady, IsCall}
use Rattle.sea_base.specs.Space.{Seen, Found, NotesCurrent}

-- a cause since a later moment is one since an earlier, where the count stood still
cause_on : (a b c : ℕ) (t u : Bool) (fault : Option SpaceFault) → b ≡ a → u ≡ t → IsCause b c u fault → IsCause a c t fault
cause_on a b c t u fault count same cause = subst (λ (n : ℕ). IsCause n c t fault) count (subst (λ (v : Bool). IsCause b c v fault) same cause)

-- no call was made
pub call_none : {S : Type 0} (g : Ghosts S) → IsFrame g.current g.keeps → (s : S) → IsReady g s → IsCall g s s None
call_none g frame s ready = record {
  ready = ready;
  told = refl;
  kept = frame.reflexive s;
  noted = λ tells at found e. inl e;
  later = omega arith;
  cause = refl;
}

-- a call that ended well, and others behind it
pub call_then : {S : Type 0} (g : Ghosts S) → IsFrame g.current g.keeps → {a b c : S} {fault : Option SpaceFault} → IsCall g a b None → IsCall g b c fault → IsCall g a c fault
call_then g frame {a} {b} {c} {fault} first later = record {
  ready = later.ready;
  told = later.told ∙ first.told;
  kept = frame.transitive a b c first.kept later.kept;
  noted = λ tells at found e.
      elim (later.noted (subst IsTrue (sym first.told) tells) at found e) [
        | inl before ↦ first.noted tells at found before
        | inr is ↦ inr (is ∙ frame.shared a b first.kept at)
      ];
  later = omega (arith, first.later, later.later);
  cause = cause_on (g.faults a) (g.faults b) (g.faults c) (g.tells a) (g.tells b) fault first.cause first.told later.cause;
}

-- memory ran out behind them
pub call_spent : {S : Type 0} (g : Ghosts S) {a b : S} → IsCall g a b None → IsCall g a b (Some NoMemory)
call_spent g call = record {
  ready = call.ready;
  told = call.told;
  kept = call.kept;
  noted = call.noted;
  later = call.later;
  cause = call.cause;
}
