-- A transaction is stable, by the law of each of its operations.
use Rattle.std.proofs.Common.{◌≡◌, ◌⊎◌, inl, inr, ℕ, ◌+◌, ◌<◌, ◌≤◌, ◌^◌, max, List, [], ◌∷◌, ◌++◌, length, Option, Some, None, refl, sym, ap, subst, ◌∙◌, arith}
use Rattle.std.proofs.Math.Path.{fun_ext}
use Rattle.std.proofs.lemmas.Bool.{cases_Bool}
use Rattle.sea_base.specs.Space.{Store, Seen, Agrees, laid}
use Rattle.sea_base.proofs.Spaces.{laid_changed, laid_unchanged}
use Rattle.sea_object.specs.declared.op.Op.{Op}
use Rattle.sea_object.specs.declared.reply.Item.{Item}
use Rattle.sea_object.specs.declared.reply.Reply.TheVariants.{Done, Refused}
use Rattle.sea_object.specs.declared.reply.Why.{Why}
use Rattle.sea_object.specs.Answer as model
use Rattle.sea_object.specs.Objects.{ObjectMap}
use Rattle.sea_omap.specs.Calls.{IsGiven}
use Rattle.sea_ops.specs.WellFormed.{IsWellFormed}
use Rattle.sea_ops.specs.Calls.{IsFree, Meets, Refuses}
use Rattle.sea_ops.specs.Transactions.{Waits, AreDone, WasGiven, GivenUntil, MeetsAll}
use Rattle.sea_ops.specs.Transactions.{IsStable, IsStablyRefused, DoneIsStable, RefusedIsStable}
use Rattle.sea_ops.proofs.Asked.{formed_as}

-- ---- between two operations

laid_at : (old new : Seen) (store : Store) → Waits old new → (at : ℕ) → laid new store at ≡ laid old store at
laid_at old new store waits at = elim (cases_Bool (old.changed at)) [
  | inl c ↦ laid_changed new store at (waits.changed at ∙ c) ∙ waits.view at c ∙ sym (laid_changed old store at c)
  | inr c ↦ laid_unchanged new store at (waits.changed at ∙ c) ∙ sym (laid_unchanged old store at c)
]

laid_waits : (old new : Seen) (store : Store) → Waits old new → laid new store ≡ laid old store
laid_waits old new store waits = fun_ext (laid_at old new store waits)

agrees_waits : (old new : Seen) (store : Store) → Waits old new → Agrees store new → Agrees store old
agrees_waits old new store waits agrees = λ at found e. agrees at found (waits.reads at ∙ e)

-- a store that agrees after operations agreed before them
agrees_done : (ops : List Op) (items : List Item) (old new : Seen) (store : Store) → AreDone ops items old new → Agrees store new → Agrees store old
agrees_done [] items old new store done agrees = agrees_waits old new store done.1 agrees
agrees_done (op ∷ ops) [] old new store done agrees = absurd done
agrees_done (op ∷ ops) (item ∷ items) old new store done agrees =
    let mid = agrees_done ops items done.1 new store done.4 agrees in
    agrees_waits old done.0 store done.2 (λ at found e. mid at found (done.3.notes at found e))

-- the next address rises
rises_done : (ops : List Op) (items : List Item) (old new : Seen) → AreDone ops items old new → old.next ≤ new.next
rises_done [] items old new done = done.1.rises
rises_done (op ∷ ops) [] old new done = absurd done
rises_done (op ∷ ops) (item ∷ items) old new done = omega (arith, done.2.rises, done.3.rises, rises_done ops items done.1 new done.4)

-- what is given to later operations comes later
given_later : (ops : List Op) (items : List Item) (old new : Seen) (done : AreDone ops items old new) (at : ℕ) → WasGiven ops items old new done at → old.next ≤ at
given_later [] items old new done at given = absurd given
given_later (op ∷ ops) [] old new done at given = absurd given
given_later (op ∷ ops) (item ∷ items) old new done at (inl here) = omega (arith, done.2.rises, here.0)
given_later (op ∷ ops) (item ∷ items) old new done at (inr later) = omega (arith, done.2.rises, done.3.rises, given_later ops items done.1 new done.4 at later)

-- ---- one operation, and those behind it

-- a store that an operation speaks of, behind a wait
meets_first : (store : Store) (next : ℕ) (objects : ObjectMap) (old begun mid : Seen) → Waits old begun → Agrees store mid → (f : IsWellFormed (laid old store) next objects) → next < 2 ^ 64 → ((at : ℕ) → IsGiven begun mid at → IsFree (laid old store) f.onodes at) → Meets store next objects begun mid
unfolding formed_as
meets_first store next objects old begun mid waits agrees f bounded fresh = record {
  agrees = agrees;
  formed = formed_as (laid old store) (laid begun store) next next objects objects f (laid_waits old begun store waits) (omega arith) refl;
  bounded = bounded;
  fresh = λ at given. let free = fresh at given in record { low = free.low; empty = laid_at old begun store waits at ∙ free.empty; unused = free.unused };
}

-- What operations come to.
pub record Comes (ops : List Op) (items : List Item) (store : Store) (next : ℕ) (objects : ObjectMap) (new : Seen) : Type 0 where
  pub allowed : (number : ℕ) → model.first_refused ops number objects ≡ None
  pub answers : items ≡ model.items ops objects
  pub formed : IsWellFormed (laid new store) (max next new.next) (model.effects ops objects)

max_later : (a b c : ℕ) → b ≤ c → max (max a b) c ≡ max a c
max_later a b c le = omega arith

pub comes : (ops : List Op) (items : List Item) (old new : Seen) (done : AreDone ops items old new) (store : Store) (next : ℕ) (objects : ObjectMap) → MeetsAll store next objects (WasGiven ops items old new done) old new → Comes ops items store next objects new
unfolding formed_as meets_first
comes [] items old new done store next objects m = record {
  allowed = λ number. refl;
  answers = done.0;
  formed = formed_as (laid old store) (laid new store) next (max next new.next) objects objects m.formed (laid_waits old new store done.1) (omega arith) refl;
}
comes (op ∷ ops) [] old new done store next objects m = absurd done
comes (op ∷ ops) (item ∷ items) old new done store next objects m =
    let begun = done.0 in
    let mid = done.1 in
    let rise = rises_done ops items mid new done.4 in
    let one = meets_first store next objects old begun mid done.2 (agrees_done ops items mid new store done.4 m.agrees) m.formed (omega (arith, m.bounded)) (λ at given. m.fresh at (inl given)) in
    let is = done.3.does store next objects one in
    let rest = comes ops items mid new done.4 store (max next mid.next) (model.effect op objects) (record {
      agrees = m.agrees;
      formed = is.formed;
      bounded = omega (arith, m.bounded, rise);
      fresh = λ at given.
          let free = m.fresh at (inr given) in
          is.leaves at (record { low = free.low; empty = laid_at old begun store done.2 at ∙ free.empty; unused = free.unused })
          (λ here. omega (arith, here.1, given_later ops items mid new done.4 at given));
    }) in
    record {
      allowed = λ number. ap (λ (why : Option Why). model.or_later number why (model.first_refused ops (number + 1) (model.effect op objects))) is.allowed ∙ rest.allowed (number + 1);
      answers = (λ i. is.answers i ∷ rest.answers i);
      formed = subst (λ (n : ℕ). IsWellFormed (laid new store) n (model.effects ops (model.effect op objects))) (max_later next mid.next new.next rise) rest.formed;
    }

-- A transaction is stable.
pub stable : DoneIsStable
stable ops items old new done store next objects m =
    let all = comes ops items old new done store next objects m in (
      ap (λ (refused : Option (ℕ × Why)). model.reply_of refused ops objects) (all.allowed 1) ∙ ap Done (sym all.answers),
      subst (IsWellFormed (laid new store) (max next new.next)) (sym (ap (λ (refused : Option (ℕ × Why)). model.after_of refused ops objects) (all.allowed 1))) all.formed,
    )

-- ---- a refusal

pub refused_there : (ops : List Op) (items : List Item) (op : Op) (rest : List Op) (why : Why) (old begun new : Seen) (done : AreDone ops items old begun) → Refuses op why begun new → (store : Store) (next : ℕ) (objects : ObjectMap) → MeetsAll store next objects (GivenUntil ops items old begun new done) old new → (number : ℕ) → model.first_refused (ops ++ op ∷ rest) number objects ≡ Some (number + length ops, why)
unfolding formed_as meets_first
refused_there [] items op rest why old begun new done last store next objects m number =
    let one = meets_first store next objects old begun new done.1 m.agrees m.formed (omega (arith, m.bounded)) (λ at given. m.fresh at (inr given)) in
    ap (λ (found : Option Why). model.or_later number found (model.first_refused rest (number + 1) (model.effect op objects))) (last.refuses store next objects one)
    ∙ ap (λ (n : ℕ). Some (n, why)) (omega arith)
refused_there (first ∷ ops) [] op rest why old begun new done last store next objects m number = absurd done
refused_there (first ∷ ops) (item ∷ items) op rest why old begun new done last store next objects m number =
    let start = done.0 in
    let mid = done.1 in
    let rise = rises_done ops items mid begun done.4 in
    let before : Agrees store begun = λ at found e. m.agrees at found (last.notes at found e) in
    let one = meets_first store next objects old start mid done.2 (agrees_done ops items mid begun store done.4 before) m.formed (omega (arith, m.bounded)) (λ at given. m.fresh at (inl (inl given))) in
    let is = done.3.does store next objects one in
    let later : (at : ℕ) → GivenUntil ops items mid begun new done.4 at → mid.next ≤ at = λ at given. elim given [ inl there ↦ given_later ops items mid begun done.4 at there | inr there ↦ omega (arith, rise, there.0) ] in
    let as_all : (at : ℕ) → GivenUntil ops items mid begun new done.4 at → GivenUntil (first ∷ ops) (item ∷ items) old begun new done at = λ at given. elim given [ inl there ↦ inl (inr there) | inr there ↦ inr there ] in
    ap (λ (found : Option Why). model.or_later number found (model.first_refused (ops ++ op ∷ rest) (number + 1) (model.effect first objects))) is.allowed
    ∙ refused_there ops items op rest why mid begun new done.4 last store (max next mid.next) (model.effect first objects) (record {
      agrees = m.agrees;
      formed = is.formed;
      bounded = omega (arith, m.bounded, rise, last.rises);
      fresh = λ at given.
          let free = m.fresh at (as_all at given) in
          is.leaves at (record { low = free.low; empty = laid_at old start store done.2 at ∙ free.empty; unused = free.unused })
          (λ here. omega (arith, here.1, later at given));
    }) (number + 1)
    ∙ ap (λ (n : ℕ). Some (n, why)) (omega arith)

-- A request that was refused is stably so.
pub stably_refused : RefusedIsStable
stably_refused ops items op rest why old begun new done last store next objects m =
    ap (λ (refused : Option (ℕ × Why)). model.reply_of refused (ops ++ op ∷ rest) objects) (refused_there ops items op rest why old begun new done last store next objects m 1)
    ∙ ap (λ (n : ℕ). Refused n why) (omega arith)
