-- What a run serves, from what its parts ensure.
use Rattle.std.proofs.Common.{◌≡◌, ℕ, ◌+◌, ◌-◌, ◌*◌, ◌≤◌, List, ◌++◌, length, replicate, refl, sym, ◌∙◌, subst, arith}
use Rattle.std.specs.Prelude.{Option, Some, None, IfNone, IsSome, Result, Ok, Err, IsOk, OnOk}
use Rattle.sea_base.specs.declared.memory.NoMemory.{NoMemory}
use Rattle.sea_plain.specs.Objects.{ObjectMap}
use Rattle.sea_plain_script.specs.declared.plan.Asked.{Asked}
use Rattle.sea_plain_script.specs.declared.history.Entry.{Entry}
use Rattle.sea_top.specs.declared.record.PlainRecord.{PlainRecord}
use Rattle.sea_top.specs.declared.refusal.Refusal.{Refusal}
use Rattle.sea_top.specs.Crash.{IsLog, SameFront}
use Rattle.sea_top.specs.Headline.{KeepsObjects, Serving}
use Rattle.sea_top.specs.Queue.{Keeps}
use Rattle.sea_top.specs.Serving.{AsksFirst, Served}
use Rattle.sea_top.specs.Trail.{IsTrail, Opens, after_pieces, Linked, chain_end, last_digest, objects_of, pieces_of}
use Rattle.sea_top.proofs.Crashes.{objects_of-append, run_crashes}
use Rattle.sea_top.proofs.Histories.{Serves-served, ServesFully-served}
use Rattle.sea_top.proofs.Moments.{KeepsFront}

pub keeps_objects : (records more : List PlainRecord) (contents : Option (List ℕ)) (leaves : List ℕ → Type 0) (last : ObjectMap) → last ≡ after_pieces (pieces_of more) (objects_of records) → Keeps (records ++ more) contents leaves → KeepsObjects contents leaves last
keeps_objects records more contents leaves last is keeps =
    let opens : Opens keeps.image last = record { records = records ++ more; trail = keeps.trail; objects_are = is ∙ sym (objects_of-append records more) } in
    record {
      image = keeps.image;
      held = keeps.held;
      opens = opens;
      crash = λ c left. subst (λ (i : List ℕ). Opens i last) (sym (keeps.only c left)) opens;
    }

pub if_none : {X : Type 0} (P Q : Type 0) (o : Option X) → (P → Q) → IfNone o P → IfNone o Q
if_none P Q None f p = f p
if_none P Q (Some x) f p = tt

at_none : {X : Type 0} (P : Type 0) (o : Option X) → o ≡ None → IfNone o P → P
at_none P None is p = p
at_none P (Some x) is p = absurd cc

module _ (plan : List Asked) (image : List ℕ) (blocks : ℕ) (history : List Entry) (acknowledged : ℕ) (ending : Option Refusal) (contents : Option (List ℕ)) (leaves before : List ℕ → Type 0) (start now : ℕ) (since : ℕ → List ℕ → Type 0) (records news : List PlainRecord) (first last : ObjectMap) (rest left : ℕ) (asks : AsksFirst plan) (trail : IsTrail image records) (first_is : first ≡ objects_of records) (rest_is : rest ≡ blocks - chain_end 0 records) (acked : IfNone ending (acknowledged ≡ length history)) (unacked : IsSome ending → acknowledged ≡ 0) (within : acknowledged ≤ length history) (linked : Linked (1 + length records) (last_digest (replicate 32 0) records) news) (log : IsLog plan first history news) (moments : KeepsFront (4096 * chain_end 0 records) image before start now since) (images : (c : List ℕ) → leaves c → SameFront (4096 * chain_end 0 records) image c) (bytes : (b : List ℕ) → contents ≡ Some b → SameFront (4096 * chain_end 0 records) image b) where
  -- the entries, however the serving ended
  entered : (end : ObjectMap) (free : ℕ) → Served plan first end rest free history → (ending ≡ None → (length history ≡ length plan) × KeepsObjects contents leaves end) → Serving plan image blocks history acknowledged ending contents leaves before start now since
  entered end free served done = record {
    records = records;
    trail = trail;
    last = end;
    left = free;
    legal = rw (← first_is) served.legal;
    serves = Serves-served plan first end rest free history asks served;
    room = rw (← rest_is) served.room;
    within = within;
    all = λ none. at_none _ ending none acked;
    fully = λ none. ServesFully-served plan first end rest free history asks served (done none).0;
    kept = λ none. (done none).1;
    crash = run_crashes plan image records news history acknowledged ending contents leaves before start now since end trail linked (rw (← first_is) log) (rw (← first_is) served.legal) acked unacked moments images bytes (λ none. (done none).1);
  }

  pub serving : (r : Result (Unit {0}) NoMemory) → ((end : ObjectMap) × (free : ℕ) × Served plan first end rest free history) → OnOk r (Served plan first last rest left history × (length history ≡ length plan)) → IfNone ending (IsOk r) → OnOk r (IfNone ending (KeepsObjects contents leaves last)) → Serving plan image blocks history acknowledged ending contents leaves before start now since
  serving (Ok x) some all ok kept =
      entered last left all.0 (λ none. (all.1, at_none _ ending none kept))
  serving (Err e) some all ok kept = entered some.0 some.1 some.2 (λ none. let never : IsOk {T = Unit {0}} (Err e) = at_none _ ending none ok in absurd cc)

-- no more is acknowledged than was entered
pub few_acknowledged : {X : Type 0} (ending : Option X) (acknowledged entries : ℕ) → IfNone ending (acknowledged ≡ entries) → (IsSome ending → acknowledged ≡ 0) → acknowledged ≤ entries
few_acknowledged None acknowledged entries all none = omega arith
few_acknowledged (Some x) acknowledged entries all none =
    let nothing : acknowledged ≡ 0 = none refl in omega arith
