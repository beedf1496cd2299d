-- The metadata of a record: its bytes tell it.
use Rattle.std.proofs.Common.{◌≡◌, ◌⊎◌, Bool, true, false, ◌==◌, if◌then◌else◌, ℕ, zero, suc, ◌≤◌, List, [], ◌∷◌, ◌++◌, length, refl, sym, ap, subst, ◌∙◌, inl, inr, arith, append_assoc, length-append}
use Rattle.std.specs.List.{All}
use Rattle.std.proofs.lemmas.Bool.Decides.{nat_tests}
use Rattle.std.proofs.lemmas.List.{append-nil}
use Rattle.std.proofs.lemmas.List.Elements.{All-nil}
use Rattle.sea_base.specs.declared.place.Laddr.{Laddr}
use Rattle.sea_record.specs.Entries.{address_bytes, change_bytes, counted}
use Rattle.sea_record.specs.EntryLaws.{IsMark, IsAddress, IsListed, same_mark, same_address, same_change}
use Rattle.sea_record.specs.Parts.{BeginsWithList, BeginsWithNoList, spelled_mark, listed_in, spelled_metadata, IsMetadata}
use Rattle.sea_record.specs.declared.entry.Mark.{Mark}
use Rattle.sea_record.specs.declared.lists.Metadata.{Metadata}
use Rattle.sea_record.specs.declared.record.Change.{Change}
use Rattle.sea_record.specs.declared.record.Kind.{Kind}
use Rattle.sea_record.specs.declared.record.Kind.TheVariants.{Plain}
use Rattle.sea_record.proofs.EntryLists.{length-counted, same_list}

pub none_or_some : (n : ℕ) → (n ≡ 0) ⊎ (1 ≤ n)
none_or_some zero = inl refl
none_or_some (suc n) = inr (omega arith)

pub empty_list : {A : Type 0} (xs : List A) → length xs ≡ 0 → xs ≡ []
empty_list [] e = refl
empty_list (x ∷ xs) e = absurd (omega arith)

pub not_none : (n : ℕ) → 1 ≤ n → (n == 0) ≡ false
not_none n some = grind (arith, nat_tests)

-- the three lists
unfoldable pub lists : Metadata → List ℕ
lists m = counted spelled_mark m.marks ++ (counted address_bytes m.dropped ++ counted change_bytes m.changes)

pub spelled_plain : (m : Metadata) → listed_in m ≡ 0 → spelled_metadata m ≡ m.plain
unfolding spelled_metadata
spelled_plain m none =
    ap (λ (n : ℕ). if n == 0 then m.plain else counted spelled_mark m.marks ++ counted address_bytes m.dropped ++ counted change_bytes m.changes) none

pub spelled_lists : (m : Metadata) → 1 ≤ listed_in m → spelled_metadata m ≡ lists m
unfolding spelled_metadata lists
spelled_lists m some =
    ap (λ (b : Bool). if b then m.plain else counted spelled_mark m.marks ++ counted address_bytes m.dropped ++ counted change_bytes m.changes) (not_none (listed_in m) some)
    ∙ append_assoc (counted spelled_mark m.marks) (counted address_bytes m.dropped) (counted change_bytes m.changes)

pub length-lists : (m : Metadata) → 12 ≤ length (lists m)
unfolding lists
length-lists m =
    let a = counted spelled_mark m.marks in
    let b = counted address_bytes m.dropped in
    let c = counted change_bytes m.changes in
    omega (arith, length-append a (b ++ c), length-append b c, length-counted spelled_mark m.marks, length-counted address_bytes m.dropped, length-counted change_bytes m.changes)

-- metadata with the same parts is the same
same_made : (m n : Metadata) → m.marks ≡ n.marks → m.dropped ≡ n.dropped → m.changes ≡ n.changes → m.plain ≡ n.plain → m ≡ n
same_made m n a b c d = λ i. record { marks = a i; dropped = b i; changes = c i; plain = d i }

-- lists that were read are those that are spelled
pub record SameLists (m : Metadata) (ms : List Mark) (ds : List Laddr) (cs : List Change) (behind : List ℕ) : Type 0 where
  pub marks : ms ≡ m.marks
  pub dropped : ds ≡ m.dropped
  pub changes : cs ≡ m.changes
  pub rest : behind ≡ []

same_first : (bytes : List ℕ) (m : Metadata) (kind : Kind) (marks : List Mark) (r1 : List ℕ) → IsMetadata kind bytes m → bytes ≡ lists m → BeginsWithList IsMark spelled_mark bytes marks r1 → (marks ≡ m.marks) × (r1 ≡ counted address_bytes m.dropped ++ counted change_bytes m.changes)
unfolding lists
same_first bytes m kind marks r1 is e found =
    same_list IsMark spelled_mark same_mark marks m.marks r1 (counted address_bytes m.dropped ++ counted change_bytes m.changes) found.few is.few.0 found.all is.marks (sym found.is ∙ e)

same_second : (m : Metadata) (kind : Kind) (bytes r1 : List ℕ) (dropped : List Laddr) (r2 : List ℕ) → IsMetadata kind bytes m → r1 ≡ counted address_bytes m.dropped ++ counted change_bytes m.changes → BeginsWithList IsAddress address_bytes r1 dropped r2 → (dropped ≡ m.dropped) × (r2 ≡ counted change_bytes m.changes)
same_second m kind bytes r1 dropped r2 is e found =
    same_list IsAddress address_bytes same_address dropped m.dropped r2 (counted change_bytes m.changes) found.few is.few.1 found.all is.dropped (sym found.is ∙ e)

pub same_lists : (bytes : List ℕ) (m : Metadata) (kind : Kind) (marks : List Mark) (dropped : List Laddr) (changes : List Change) (r1 r2 r3 : List ℕ) → IsMetadata kind bytes m → bytes ≡ lists m
    → BeginsWithList IsMark spelled_mark bytes marks r1 → BeginsWithList IsAddress address_bytes r1 dropped r2 → BeginsWithList IsListed change_bytes r2 changes r3 → SameLists m marks dropped changes r3
same_lists bytes m kind marks dropped changes r1 r2 r3 is e f1 f2 f3 =
    let s1 = same_first bytes m kind marks r1 is e f1 in
    let s2 = same_second m kind bytes r1 dropped r2 is s1.1 f2 in
    let s3 = same_list IsListed change_bytes same_change changes m.changes r3 [] f3.few is.few.2 f3.all is.changes (sym f3.is ∙ s2.1 ∙ sym (append-nil (counted change_bytes m.changes))) in
    record { marks = s1.0; dropped = s2.0; changes = s3.0; rest = s3.1 }

-- metadata of some bytes in a record that isn't plain is lists
pub lists_there : (kind : Kind) (bytes : List ℕ) (m : Metadata) → (kind ≡ Plain → ⊥) → 1 ≤ length bytes → IsMetadata kind bytes m → (1 ≤ listed_in m) × (bytes ≡ lists m)
lists_there kind bytes m other some is =
    elim (none_or_some (listed_in m)) [
      | inl none ↦ absurd (omega (arith, some, ap length (is.is ∙ spelled_plain m none), is.no_plain other))
      | inr more ↦ (more, is.is ∙ spelled_lists m more)
    ]

-- no metadata stands where one of the lists is wanting
pub no_first : (kind : Kind) (bytes : List ℕ) → (kind ≡ Plain → ⊥) → 1 ≤ length bytes → BeginsWithNoList IsMark spelled_mark bytes → (m : Metadata) → IsMetadata kind bytes m → ⊥
unfolding lists
no_first kind bytes other some none m is =
    none m.marks (counted address_bytes m.dropped ++ counted change_bytes m.changes) (record { few = is.few.0; all = is.marks; is = (lists_there kind bytes m other some is).1 })

pub no_second : (kind : Kind) (bytes : List ℕ) (marks : List Mark) (r1 : List ℕ) → (kind ≡ Plain → ⊥) → 1 ≤ length bytes → BeginsWithList IsMark spelled_mark bytes marks r1 → BeginsWithNoList IsAddress address_bytes r1 → (m : Metadata) → IsMetadata kind bytes m → ⊥
no_second kind bytes marks r1 other some f1 none m is =
    let s1 = same_first bytes m kind marks r1 is (lists_there kind bytes m other some is).1 f1 in
    none m.dropped (counted change_bytes m.changes) (record { few = is.few.1; all = is.dropped; is = s1.1 })

pub no_third : (kind : Kind) (bytes : List ℕ) (marks : List Mark) (r1 : List ℕ) (dropped : List Laddr) (r2 : List ℕ) → (kind ≡ Plain → ⊥) → 1 ≤ length bytes → BeginsWithList IsMark spelled_mark bytes marks r1 → BeginsWithList IsAddress address_bytes r1 dropped r2
    → BeginsWithNoList IsListed change_bytes r2 → (m : Metadata) → IsMetadata kind bytes m → ⊥
no_third kind bytes marks r1 dropped r2 other some f1 f2 none m is =
    let s1 = same_first bytes m kind marks r1 is (lists_there kind bytes m other some is).1 f1 in
    let s2 = same_second m kind bytes r1 dropped r2 is s1.1 f2 in
    none m.changes [] (record { few = is.few.2; all = is.changes; is = s2.1 ∙ sym (append-nil (counted change_bytes m.changes)) })

-- the three lists that were read are the metadata
pub lists_read : (kind : Kind) (bytes : List ℕ) (m : Metadata) (r1 r2 r3 : List ℕ) → (kind ≡ Plain → ⊥) → BeginsWithList IsMark spelled_mark bytes m.marks r1 → BeginsWithList IsAddress address_bytes r1 m.dropped r2 → BeginsWithList IsListed change_bytes r2 m.changes r3
    → length r3 ≡ 0 → m.plain ≡ r3 → 1 ≤ listed_in m → IsMetadata kind bytes m
unfolding lists
lists_read kind bytes m r1 r2 r3 other f1 f2 f3 end plain some = record {
  few = (f1.few, f2.few, f3.few);
  marks = f1.all;
  dropped = f2.all;
  changes = f3.all;
  plain_alone = λ k. absurd (other k);
  no_plain = λ _. ap length plain ∙ end;
  is = f1.is ∙ ap (λ (b : List ℕ). counted spelled_mark m.marks ++ b) (f2.is ∙ ap (λ (b : List ℕ). counted address_bytes m.dropped ++ b) (f3.is ∙ ap (λ (b : List ℕ). counted change_bytes m.changes ++ b) (empty_list r3 end) ∙ append-nil (counted change_bytes m.changes)))
      ∙ sym (spelled_lists m some);
}

-- and bytes alone are it where there is no list
pub plain_read : (kind : Kind) (bytes : List ℕ) (m : Metadata) → m.marks ≡ [] → m.dropped ≡ [] → m.changes ≡ [] → m.plain ≡ bytes → ((kind ≡ Plain → ⊥) → length bytes ≡ 0) → IsMetadata kind bytes m
plain_read kind bytes m a b c plain none =
    let la : length m.marks ≡ 0 = ap length a in
    let lb : length m.dropped ≡ 0 = ap length b in
    let lc : length m.changes ≡ 0 = ap length c in
    record {
      few = (omega arith, omega arith, omega arith);
      marks = subst (λ (xs : List Mark). All IsMark xs) (sym a) (All-nil IsMark);
      dropped = subst (λ (xs : List Laddr). All IsAddress xs) (sym b) (All-nil IsAddress);
      changes = subst (λ (xs : List Change). All IsListed xs) (sym c) (All-nil IsListed);
      plain_alone = λ _. omega arith;
      no_plain = λ other. ap length plain ∙ none other;
      is = sym (spelled_plain m (omega arith) ∙ plain);
    }

-- the bytes tell the metadata
pub same_metadata : (kind : Kind) (bytes : List ℕ) (m n : Metadata) → IsMetadata kind bytes m → IsMetadata kind bytes n → m ≡ n
unfolding lists
same_metadata kind bytes m n is_m is_n =
    elim (none_or_some (listed_in m)) [
      | inl none ↦ elim (none_or_some (listed_in n)) [
        | inl none' ↦ same_made m n
            (empty_list m.marks (omega arith) ∙ sym (empty_list n.marks (omega arith))) (empty_list m.dropped (omega arith) ∙ sym (empty_list n.dropped (omega arith))) (empty_list m.changes (omega arith) ∙ sym (empty_list n.changes (omega arith)))
            (sym (is_m.is ∙ spelled_plain m none) ∙ is_n.is ∙ spelled_plain n none')
        | inr some ↦ absurd (apart m n none some is_m is_n)
      ]
      | inr some ↦ elim (none_or_some (listed_in n)) [
        | inl none ↦ absurd (apart n m none some is_n is_m)
        | inr some' ↦ both some some'
      ]
    ]
  where
    other : (p : Metadata) → 1 ≤ listed_in p → IsMetadata kind bytes p → kind ≡ Plain → ⊥
    other p some is k = let none = is.plain_alone k in omega arith

    apart : (p q : Metadata) → listed_in p ≡ 0 → 1 ≤ listed_in q → IsMetadata kind bytes p → IsMetadata kind bytes q → ⊥
    apart p q none some is_p is_q =
        omega (arith, ap length (is_p.is ∙ spelled_plain p none), is_p.no_plain (other q some is_q), ap length (is_q.is ∙ spelled_lists q some), length-lists q)

    both : 1 ≤ listed_in m → 1 ≤ listed_in n → m ≡ n
    both some some' =
        let e = is_m.is ∙ spelled_lists m some in
        let f1 : BeginsWithList IsMark spelled_mark bytes m.marks (counted address_bytes m.dropped ++ counted change_bytes m.changes) = record { few = is_m.few.0; all = is_m.marks; is = from e } in
        let f2 : BeginsWithList IsAddress address_bytes (counted address_bytes m.dropped ++ counted change_bytes m.changes) m.dropped (counted change_bytes m.changes) = record { few = is_m.few.1; all = is_m.dropped; is = refl } in
        let f3 : BeginsWithList IsListed change_bytes (counted change_bytes m.changes) m.changes [] = record { few = is_m.few.2; all = is_m.changes; is = sym (append-nil (counted change_bytes m.changes)) } in
        let same = same_lists bytes n kind m.marks m.dropped m.changes _ _ _ is_n (is_n.is ∙ spelled_lists n some') f1 f2 f3 in
        same_made m n same.marks same.dropped same.changes
        (empty_list m.plain (is_m.no_plain (other m some is_m)) ∙ sym (empty_list n.plain (is_n.no_plain (other n some' is_n))))
      where
        from : bytes ≡ lists m → bytes ≡ counted spelled_mark m.marks ++ (counted address_bytes m.dropped ++ counted change_bytes m.changes)
        from e = e

-- what a test for no bytes tells
pub no_length : (n : ℕ) → true ≡ (n == 0) → n ≡ 0
no_length n e = grind (arith, nat_tests)

pub some_length : (n : ℕ) → false ≡ (n == 0) → 1 ≤ n
some_length n e = grind (arith, nat_tests)
