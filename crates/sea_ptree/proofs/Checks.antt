-- Entries of a block, checked one after the other.
use Rattle.std.proofs.Common.{◌≡◌, ℕ, zero, suc, ◌+◌, ◌*◌, ◌<◌, ◌≤◌, ◌^◌, List, [], ◌∷◌, ◌++◌, length, get_or, take, drop, refl, sym, ap, subst, ◌∙◌, arith, append_assoc, take-append-drop}
use Rattle.std.specs.Prelude.{slice_range}
use Rattle.std.specs.List.{AllByRecursion}
use Rattle.std.proofs.lemmas.List.{take_more, drop_more}
use Rattle.sea_ptree.specs.declared.kind.Kind.{Kind}
use Rattle.sea_ptree.specs.Node.{Entry, Fits, MayStand, IsRising, entry_bytes}
use Rattle.sea_ptree.specs.Reading.{AreRead}
use Rattle.sea_ptree.proofs.EntryBytes.{entry_of}
use Rattle.sea_ptree.proofs.Rising.{Lie, Lie-append, Lie-split, rising_from_zero}

abbrev pub AreSlots : Kind → ℕ → List Entry → Type 0
AreSlots kind level es = AllByRecursion (λ e. MayStand kind level e.1) es

-- the entries of a block before an index, and the one there
pub record Next (es : List Entry) (index : ℕ) (e : Entry) : Type 0 where
  pub more : take (index + 1) es ≡ take index es ++ e ∷ []
  pub rest : drop index es ≡ e ∷ drop (index + 1) es

pub next_read : (bytes : List ℕ) (count index : ℕ) (es : List Entry) (e : Entry) → length bytes ≡ 4096 → count ≤ 145 → AreRead bytes count es → index < count → Fits e → slice_range bytes (32 + 28 * index) (60 + 28 * index) ≡ entry_bytes e → Next es index e
next_read bytes count index es e len room read within fits here =
    let lt : index < length es = omega (arith, read.count_is) in
    let is : get_or es index e ≡ e = entry_of bytes count index es e e len room read within fits here in
    record {
      more = take_more es index e lt ∙ ap (λ (x : Entry). take index es ++ x ∷ []) is;
      rest = drop_more es index e lt ∙ ap (λ (x : Entry). x ∷ drop (index + 1) es) is;
    }

-- the entries before an index are in order, may stand in their node, and end at a key
pub record SoFar (kind : Kind) (level : ℕ) (es : List Entry) (index last : ℕ) : Type 0 where
  pub rising : Lie 0 (last + 1) (take index es)
  pub slots : AreSlots kind level (take index es)
  pub front : List Entry
  pub end : Entry
  pub ends : take index es ≡ front ++ end ∷ []
  pub last_is : end.0 ≡ last

pub first_checked : (kind : Kind) (level : ℕ) (es : List Entry) (e : Entry) → Next es 0 e → MayStand kind level e.1 → SoFar kind level es 1 e.0
first_checked kind level es e next may = record {
  rising = subst (Lie 0 (e.0 + 1)) (sym next.more) (omega arith, omega arith);
  slots = subst (AreSlots kind level) (sym next.more) (may, tt);
  front = [];
  end = e;
  ends = next.more;
  last_is = refl;
}

slots_more : (kind : Kind) (level : ℕ) (es : List Entry) (e : Entry) → AreSlots kind level es → MayStand kind level e.1 → AreSlots kind level (es ++ e ∷ [])
slots_more kind level [] e all may = (may, tt)
slots_more kind level (x ∷ es) e all may = (all.0, slots_more kind level es e all.1 may)

pub more_checked : (kind : Kind) (level : ℕ) (es : List Entry) (index last : ℕ) (e : Entry) → SoFar kind level es index last → Next es index e → last < e.0 → MayStand kind level e.1 → SoFar kind level es (index + 1) e.0
more_checked kind level es index last e so next less may = record {
  rising = subst (Lie 0 (e.0 + 1)) (sym next.more) (Lie-append 0 (last + 1) (e.0 + 1) (take index es) (e ∷ []) so.rising (omega arith, omega arith));
  slots = subst (AreSlots kind level) (sym next.more) (slots_more kind level (take index es) e so.slots may);
  front = take index es;
  end = e;
  ends = next.more;
  last_is = refl;
}

slot_at : (kind : Kind) (level : ℕ) (es : List Entry) (index : ℕ) (e : Entry) (rest : List Entry) → drop index es ≡ e ∷ rest → AreSlots kind level es → MayStand kind level e.1
slot_at kind level [] zero e rest is all = absurd cc
slot_at kind level [] (suc i) e rest is all = absurd cc
slot_at kind level (x ∷ es) zero e rest is all = (subst (AreSlots kind level) is all).0
slot_at kind level (x ∷ es) (suc i) e rest is all = slot_at kind level es i e rest is all.1

pub slot_there : (kind : Kind) (level : ℕ) (es : List Entry) (index : ℕ) (e : Entry) → Next es index e → AreSlots kind level es → MayStand kind level e.1
slot_there kind level es index e next all = slot_at kind level es index e (drop (index + 1) es) next.rest all

-- the next key is above the last one where keys rise
pub key_above : (kind : Kind) (level : ℕ) (es : List Entry) (index last : ℕ) (e : Entry) → SoFar kind level es index last → Next es index e → AllByRecursion Fits es → IsRising es → last < e.0
key_above kind level es index last e so next fits rising =
    let whole : es ≡ so.front ++ (so.end ∷ e ∷ drop (index + 1) es) = sym (take-append-drop index es) ∙ (λ i. so.ends i ++ next.rest i) ∙ append_assoc so.front (so.end ∷ []) (e ∷ drop (index + 1) es) in
    let parts = Lie-split 0 (2 ^ 64) so.front (so.end ∷ e ∷ drop (index + 1) es) (subst (Lie 0 (2 ^ 64)) whole (rising_from_zero es fits rising)) in
    omega (arith, so.last_is, parts.back.1.0)
