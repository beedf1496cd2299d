-- The fields that stand in a node's front and in an entry, and entries read one behind the other.
use Rattle.std.proofs.Common.{◌≡◌, ◌≢◌, ℕ, zero, suc, ◌+◌, ◌-◌, ◌<◌, ◌≤◌, List, [], ◌∷◌, ◌++◌, length, get_or, take, drop, replicate, codes, refl, sym, ap, subst, ◌∙◌, arith, append_assoc, length-append, length-drop, take-append-drop}
use Rattle.std.specs.Prelude.{slice_range}
use Rattle.std.specs.List.{AllByRecursion}
use Rattle.std.proofs.lemmas.List.{take_rest, get_or-drop, append-nil, drop_more, drop-drop, length-take-le, get_or_at, drop_at}
use Rattle.sea_base.specs.Field.{big_endian}
use Rattle.sea_base.proofs.Fields.{length-big_endian, one_byte}
use Rattle.sea_base.proofs.Slices.{zeros_long, slice_at, slice_then}
use Rattle.sea_node.specs.Entries.{Entry, size, entry_bytes, entries_bytes}
use Rattle.sea_node.specs.Node.{IsNode, Spells}
use Rattle.sea_node.specs.Reading.{IsEntry, front_bytes, BeginsAtLevel, BeginsWithEntry, BeginsWithNoEntry, StandsAt, AreEntries}
use Rattle.sea_node.proofs.Nodes.{length-front_bytes, node_front, same_entries, entries_of_node, length-spelled, entry_first, same_entry, ends, length-entry_bytes, length-entries_bytes, entries_bytes-append}

-- ---- the front

-- what is tested of a front
pub record FrontFields (bytes : List ℕ) (level : ℕ) : Type 0 where
  pub magic : take 4 bytes ≡ codes "SNOD"
  pub numbered : get_or bytes 4 0 ≡ level
  pub zero : slice_range bytes 5 32 ≡ replicate 27 0

pub front_fields : (bytes : List ℕ) (level : ℕ) (rest : List ℕ) → bytes ≡ front_bytes level ++ rest → FrontFields bytes level
unfolding front_bytes
front_fields bytes level rest e = record {
  magic = ap (take 4) e;
  numbered = ap (λ (x : List ℕ). get_or x 4 0) e;
  zero = ap (λ (x : List ℕ). slice_range x 5 32) e;
}

one_at : (bytes : List ℕ) (at : ℕ) → at < length bytes → slice_range bytes at (at + 1) ≡ get_or bytes at 0 ∷ []
one_at bytes at within =
    let one : at + 1 - at ≡ 1 = omega arith in
    ap (λ (n : ℕ). take n (drop at bytes)) one ∙ ap (take 1) (drop_more bytes at 0 within)

pub front_read : (bytes : List ℕ) → length bytes ≡ 4096 → take 4 bytes ≡ codes "SNOD" → slice_range bytes 5 32 ≡ replicate 27 0 → bytes ≡ front_bytes (get_or bytes 4 0) ++ drop 32 bytes
unfolding front_bytes
front_read bytes len magic zeros =
    let s : ℕ → ℕ → List ℕ = slice_range bytes in
    let l = get_or bytes 4 0 ∷ [] in
    let made : codes "SNOD" ++ l ++ replicate 27 0 ≡ take 32 bytes =
    ap (λ (x : List ℕ). x ++ l ++ replicate 27 0) (sym magic)
    ∙ ap (λ (x : List ℕ). take 4 bytes ++ x ++ replicate 27 0) (sym (one_at bytes 4 (omega arith)))
    ∙ ap (λ (x : List ℕ). take 4 bytes ++ s 4 5 ++ x) (sym zeros)
    ∙ ap (λ (x : List ℕ). x ++ s 5 32) (slice_then bytes 0 4 5 (omega arith) (omega arith))
    ∙ slice_then bytes 0 5 32 (omega arith) (omega arith) in
    sym (take-append-drop 32 bytes) ∙ ap (λ (x : List ℕ). x ++ drop 32 bytes) (sym made)

-- ---- one entry

-- where the fields of an entry stand
pub record EntryFields (bytes : List ℕ) (at : ℕ) (e : Entry) : Type 0 where
  pub long : at + 3 + length e.0 + length e.1 ≤ length bytes
  pub key_len : get_or bytes at 0 ≡ length e.0
  pub value_len : slice_range bytes (at + 1) (at + 1 + 2) ≡ big_endian 2 (length e.1)
  pub key : slice_range bytes (at + 3) (at + 3 + length e.0) ≡ e.0
  pub value : slice_range bytes (at + 3 + length e.0) (at + 3 + length e.0 + length e.1) ≡ e.1

pub entry_fields : (bytes : List ℕ) (at : ℕ) (e : Entry) (rest : List ℕ) → at ≤ length bytes → BeginsWithEntry (drop at bytes) e rest → EntryFields bytes at e
entry_fields bytes at e rest within found = record {
  long = omega (arith, ap length found.1, length-append (entry_bytes e) rest, length-entry_bytes e, length-drop at bytes);
  key_len = ap (λ (x : List ℕ). get_or x at 0) whole ∙ head (take at bytes) (v ++ (e.0 ++ (e.1 ++ rest))) at len;
  value_len = ap (λ (x : List ℕ). slice_range x (at + 1) (at + 1 + 2)) (whole ∙ sym (append_assoc (take at bytes) (n ∷ []) (v ++ (e.0 ++ (e.1 ++ rest))))) ∙ slice_at (take at bytes ++ n ∷ []) v (e.0 ++ (e.1 ++ rest)) (at + 1) (at + 1 + 2) (omega (arith, len, length-append (take at bytes) (n ∷ []))) (omega (arith, length-big_endian 2 (length e.1)));
  key = ap (λ (x : List ℕ). slice_range x (at + 3) (at + 3 + n)) (whole ∙ regroup (take at bytes) (n ∷ []) v (e.0 ++ (e.1 ++ rest))) ∙ slice_at (take at bytes ++ n ∷ [] ++ v) e.0 (e.1 ++ rest) (at + 3) (at + 3 + n) before refl;
  value = ap (λ (x : List ℕ). slice_range x (at + 3 + n) (at + 3 + n + length e.1)) (whole ∙ regroup (take at bytes) (n ∷ []) v (e.0 ++ (e.1 ++ rest)) ∙ sym (append_assoc (take at bytes ++ n ∷ [] ++ v) e.0 (e.1 ++ rest))) ∙ slice_at (take at bytes ++ n ∷ [] ++ v ++ e.0) e.1 rest (at + 3 + n) (at + 3 + n + length e.1) (omega (arith, before, length-append (take at bytes ++ n ∷ [] ++ v) e.0)) refl;
}
  where
    n : ℕ
    n = length e.0

    v : List ℕ
    v = big_endian 2 (length e.1)

    len : length (take at bytes) ≡ at
    len = length-take-le at bytes within

    before : length (take at bytes ++ n ∷ [] ++ v) ≡ at + 3
    before = omega (arith, len, length-append (take at bytes ++ n ∷ []) v, length-append (take at bytes) (n ∷ []), length-big_endian 2 (length e.1))

    whole : bytes ≡ take at bytes ++ (n ∷ [] ++ (v ++ (e.0 ++ (e.1 ++ rest))))
    whole = sym (take-append-drop at bytes) ∙ ap (λ (x : List ℕ). take at bytes ++ x) (found.1 ∙ entry_first e rest found.0.0)

    head : (front behind : List ℕ) (at : ℕ) → length front ≡ at → get_or (front ++ (n ∷ [] ++ behind)) at 0 ≡ n
    head front behind at e = get_or_at front n behind 0 at e

    regroup : (a b c d : List ℕ) → a ++ (b ++ (c ++ d)) ≡ (a ++ b ++ c) ++ d
    regroup a b c d = simp append_assoc

-- what is read makes the entry's bytes
pub entry_read : (bytes : List ℕ) (at end : ℕ) (e : Entry) → length bytes ≡ 4096 → at < 4096 → end ≡ at + 3 + length e.0 + length e.1 → end ≤ 4096 → IsEntry e → get_or bytes at 0 ≡ length e.0
    → slice_range bytes (at + 1) (at + 1 + 2) ≡ big_endian 2 (length e.1) → e.0 ≡ slice_range bytes (at + 3) (at + 3 + length e.0) → e.1 ≡ slice_range bytes (at + 3 + length e.0) end → StandsAt bytes at e end
entry_read bytes at end e len within is end_within entry key_len value_len key value =
    let n = length e.0 in
    let s : ℕ → ℕ → List ℕ = slice_range bytes in
    let v = big_endian 2 (length e.1) in
    let front : big_endian 1 n ≡ s at (at + 1) = sym (one_byte n (omega arith)) ∙ ap (λ (x : ℕ). x ∷ []) (sym key_len) ∙ sym (one_at bytes at (omega arith)) in
    let made : entry_bytes e ≡ s at end =
    ap (λ (x : List ℕ). x ++ v ++ e.0 ++ e.1) front
    ∙ ap (λ (x : List ℕ). s at (at + 1) ++ x ++ e.0 ++ e.1) (sym value_len ∙ ap (s (at + 1)) (omega arith))
    ∙ ap (λ (x : List ℕ). s at (at + 1) ++ s (at + 1) (at + 3) ++ x ++ e.1) key
    ∙ ap (λ (x : List ℕ). s at (at + 1) ++ s (at + 1) (at + 3) ++ s (at + 3) (at + 3 + n) ++ x) value
    ∙ ap (λ (x : List ℕ). x ++ s (at + 3) (at + 3 + n) ++ s (at + 3 + n) end) (slice_then bytes at (at + 1) (at + 3) (omega arith) (omega arith))
    ∙ ap (λ (x : List ℕ). x ++ s (at + 3 + n) end) (slice_then bytes at (at + 3) (at + 3 + n) (omega arith) (omega arith))
    ∙ slice_then bytes at (at + 3 + n) end (omega arith) (omega arith) in
    let behind : drop (end - at) (drop at bytes) ≡ drop end bytes = drop-drop (end - at) at bytes ∙ ap (λ (k : ℕ). drop k bytes) (omega arith) in
    (end_within, (entry, sym (take-append-drop (end - at) (drop at bytes)) ∙ ap (λ (x : List ℕ). x ++ drop (end - at) (drop at bytes)) (sym made) ∙ ap (λ (x : List ℕ). entry_bytes e ++ x) behind))

-- ---- entries one behind the other

pub none_read : (bytes : List ℕ) (es : List Entry) → es ≡ [] → AllByRecursion IsEntry es × (bytes ≡ entries_bytes es ++ bytes)
none_read bytes es e =
    subst (λ (xs : List Entry). AllByRecursion IsEntry xs × (bytes ≡ entries_bytes xs ++ bytes)) (sym e) (tt, refl)

pub more_read : (bytes rest behind : List ℕ) (es later : List Entry) (e : Entry) → later ≡ es ++ e ∷ [] → AllByRecursion IsEntry es → bytes ≡ entries_bytes es ++ rest → BeginsWithEntry rest e behind
    → AllByRecursion IsEntry later × (bytes ≡ entries_bytes later ++ behind)
more_read bytes rest behind es later e same all read found =
    let one : entries_bytes (e ∷ []) ≡ entry_bytes e = append-nil (entry_bytes e) in
    let is : bytes ≡ entries_bytes (es ++ e ∷ []) ++ behind =
    read ∙ ap (λ (r : List ℕ). entries_bytes es ++ r) found.1 ∙ sym (append_assoc (entries_bytes es) (entry_bytes e) behind) ∙ ap (λ (b : List ℕ). entries_bytes es ++ b ++ behind) (sym one) ∙ ap (λ (b : List ℕ). b ++ behind) (sym (entries_bytes-append es (e ∷ []))) in
    subst (λ (xs : List Entry). AllByRecursion IsEntry xs × (bytes ≡ entries_bytes xs ++ behind)) (sym same) (all_more es all, is)
  where
    all_more : (xs : List Entry) → AllByRecursion IsEntry xs → AllByRecursion IsEntry (xs ++ e ∷ [])
    all_more [] all = (found.0, tt)
    all_more (x ∷ xs) all = (all.0, all_more xs all.1)

-- the first of the bytes from a place on
pub first_from : (bytes : List ℕ) (at : ℕ) → get_or (drop at bytes) 0 0 ≡ get_or bytes at 0
first_from bytes at = get_or-drop at bytes 0 0 ∙ ap (λ (k : ℕ). get_or bytes k 0) (omega arith)

-- what a test of the bytes from a place on says of the block's
pub whole_from : (bytes block : List ℕ) (at : ℕ) → bytes ≡ block → take (length bytes - at) (drop at bytes) ≡ drop at block
whole_from bytes block at same = take_rest bytes at ∙ ap (drop at) same

pub further : (bytes : List ℕ) (at end : ℕ) (e : Entry) → length bytes ≡ 4096 → at < 4096 → StandsAt bytes at e end → at < end
further bytes at end e len within found =
    omega (arith, ap length found.1.1, length-append (entry_bytes e) (drop end bytes), length-entry_bytes e, length-drop at bytes, length-drop end bytes)

-- entries and a rest that are entries and zeros: these begin with those, and the rest is the others and the zeros
pub same_front : (es fs : List Entry) (rest : List ℕ) (n : ℕ) → AllByRecursion IsEntry es → AllByRecursion IsEntry fs → entries_bytes es ++ rest ≡ entries_bytes fs ++ replicate n 0
    → (more : List Entry) × AllByRecursion IsEntry more × (rest ≡ entries_bytes more ++ replicate n 0) × (fs ≡ es ++ more)
same_front [] fs rest n all_e all_f same = (fs, all_f, same, refl)
same_front (e ∷ es) [] rest n all_e all_f same =
    absurd (ends e (entries_bytes es ++ rest) n all_e.0.0 (sym (append_assoc (entry_bytes e) (entries_bytes es) rest) ∙ same))
same_front (e ∷ es) (f ∷ fs) rest n all_e all_f same =
    let first = same_entry e f _ _ all_e.0 all_f.0 (sym (append_assoc (entry_bytes e) (entries_bytes es) rest) ∙ same ∙ append_assoc (entry_bytes f) (entries_bytes fs) (replicate n 0)) in
    let behind = same_front es fs rest n all_e.1 all_f.1 first.1 in
    (behind.0, behind.1, behind.2, λ i. sym first.0 i ∷ behind.3 i)

-- a byte other than 0 stands there, and no entry: then the whole is no entries
pub stops : (bytes rest : List ℕ) (read : List Entry) → AllByRecursion IsEntry read → bytes ≡ entries_bytes read ++ rest → get_or rest 0 0 ≢ 0 → BeginsWithNoEntry rest → (es : List Entry) → AreEntries bytes es → ⊥
stops bytes rest read all is left none es found =
    let others = same_front read es rest (length bytes - size es) all found.0 (sym is ∙ found.1) in
    next others.0 others.1 others.2
  where
    zeros_first : (n : ℕ) → get_or {A = ℕ} (replicate n 0) 0 0 ≡ 0
    zeros_first zero = refl
    zeros_first (suc n) = refl

    next : (more : List Entry) → AllByRecursion IsEntry more → rest ≡ entries_bytes more ++ replicate (length bytes - size es) 0 → ⊥
    next [] all e = left (ap (λ (x : List ℕ). get_or x 0 0) e ∙ zeros_first (length bytes - size es))
    next (p ∷ more) all e = none p (entries_bytes more ++ replicate (length bytes - size es) 0) (all.0, e ∙ append_assoc (entry_bytes p) (entries_bytes more) (replicate (length bytes - size es) 0))

-- no byte other than 0 stands there, and what is left is not zero: then the whole is no entries
pub ends_dirty : (bytes rest : List ℕ) (read : List Entry) → AllByRecursion IsEntry read → bytes ≡ entries_bytes read ++ rest → get_or rest 0 0 ≡ 0 → (rest ≡ replicate (length rest) 0 → ⊥) → (es : List Entry) → AreEntries bytes es → ⊥
ends_dirty bytes rest read all is first dirty es found =
    let others = same_front read es rest (length bytes - size es) all found.0 (sym is ∙ found.1) in
    next others.0 others.1 others.2
  where
    next : (more : List Entry) → AllByRecursion IsEntry more → rest ≡ entries_bytes more ++ replicate (length bytes - size es) 0 → ⊥
    next [] all e = dirty (zeros_long rest (length bytes - size es) e)
    next (p ∷ more) all e =
        let behind = entries_bytes more ++ replicate {A = ℕ} (length bytes - size es) 0 in
        let whole = e ∙ append_assoc (entry_bytes p) (entries_bytes more) (replicate (length bytes - size es) 0) ∙ entry_first p behind all.0.0 in
        let none : length p.0 ≡ 0 = sym (ap (λ (x : List ℕ). get_or x 0 0) whole) ∙ first in omega (arith, all.0.0.0)

-- what is left is zero: then the whole is what was read
pub ends_clean : (bytes rest : List ℕ) (read : List Entry) → AllByRecursion IsEntry read → bytes ≡ entries_bytes read ++ rest → rest ≡ replicate (length rest) 0 → AreEntries bytes read
ends_clean bytes rest read all is clean =
    (all, is ∙ ap (λ (r : List ℕ). entries_bytes read ++ r) (clean ∙ ap (λ (k : ℕ). replicate k 0) (omega (arith, ap length is, length-append (entries_bytes read) rest, length-entries_bytes read))))

-- ---- the node

pub room_of : (bytes : List ℕ) (es : List Entry) → length bytes ≡ 4064 → AreEntries bytes es → size es ≤ 4064
room_of bytes es len found =
    omega (arith, ap length found.1, length-append (entries_bytes es) (replicate {A = ℕ} (length bytes - size es) 0), length-entries_bytes es)

pub spelled_front : (bytes : List ℕ) (level : ℕ) (es : List Entry) → Spells bytes level es → bytes ≡ front_bytes level ++ (entries_bytes es ++ replicate (4064 - size es) 0)
spelled_front bytes level es spells = spells.spelled ∙ node_front level es

pub spelled_entries : (bytes : List ℕ) (level : ℕ) (es : List Entry) → Spells bytes level es → AreEntries (drop 32 bytes) es
spelled_entries bytes level es spells =
    let behind = entries_bytes es ++ replicate {A = ℕ} (4064 - size es) 0 in
    let rest : drop 32 bytes ≡ behind = ap (drop 32) (spelled_front bytes level es spells) ∙ drop_at (front_bytes level) behind 32 (length-front_bytes level) in
    let len : length (drop 32 bytes) ≡ 4064 = omega (arith, length-drop 32 bytes, length-spelled bytes level es spells) in
    (entries_of_node level es spells.node, rest ∙ ap (λ (n : ℕ). entries_bytes es ++ replicate (n - size es) 0) (sym len))

pub node_read : (bytes : List ℕ) (level : ℕ) (es : List Entry) → length bytes ≡ 4096 → BeginsAtLevel bytes level → AreEntries (drop 32 bytes) es → IsNode level es → Spells bytes level es
node_read bytes level es len begins entries node =
    let rest : length (drop 32 bytes) ≡ 4064 = omega (arith, length-drop 32 bytes) in
    record {
      node = node;
      spelled = begins.1 ∙ ap (λ (r : List ℕ). front_bytes level ++ r) (entries.1 ∙ ap (λ (n : ℕ). entries_bytes es ++ replicate (n - size es) 0) rest) ∙ sym (node_front level es);
    }

pub same_level : (bytes : List ℕ) (level level' : ℕ) (es : List Entry) → BeginsAtLevel bytes level → Spells bytes level' es → level' ≡ level
same_level bytes level level' es begins spells =
    sym (front_fields bytes level' _ (spelled_front bytes level' es spells)).numbered ∙ (front_fields bytes level _ begins.1).numbered

-- what was read is all that the block may spell
pub only_read : (bytes : List ℕ) (level level' : ℕ) (es fs : List Entry) → BeginsAtLevel bytes level → AreEntries (drop 32 bytes) es → Spells bytes level' fs → IsNode level es
only_read bytes level level' es fs begins entries spells =
    let number : level' ≡ level = same_level bytes level level' fs begins spells in
    let others = spelled_entries bytes level' fs spells in
    let same : fs ≡ es = same_entries fs es _ _ others.0 entries.0 (sym others.1 ∙ entries.1) in
    subst (λ (l : ℕ). IsNode l es) number (subst (IsNode level') same spells.node)
