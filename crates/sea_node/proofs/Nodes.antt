-- How many bytes entries and nodes take, and that a block spells one node alone.
use Rattle.std.proofs.Common.{◌/◌, ◌%◌, ◌≡◌, ℕ, zero, suc, ◌+◌, ◌-◌, ◌*◌, ◌<◌, ◌≤◌, List, [], ◌∷◌, ◌++◌, length, get_or, take, drop, replicate, codes, refl, sym, ap, ◌∙◌, arith, append_assoc, length-append}
use Rattle.std.specs.List.{All, AllByRecursion}
use Rattle.std.proofs.lemmas.List.{take_all, length-replicate}
use Rattle.std.proofs.lemmas.List.Concat.{flat_map-append}
use Rattle.std.proofs.lemmas.List.Elements.{recursion_from_All}
use Rattle.std.proofs.lemmas.List.Sums.{sum_by-append, sum_by-cons, sum_by-take-drop}
use Rattle.sea_base.specs.Field.{big_endian}
use Rattle.sea_base.specs.Name.{IsName}
use Rattle.sea_base.proofs.Fields.{length-big_endian, one_byte, same_field}
use Rattle.sea_base.proofs.Slices.{same_parts}
use Rattle.sea_node.specs.Entries.{Entry, entry_size, size, entry_bytes, entries_bytes}
use Rattle.sea_node.specs.Reading.{IsEntry, front_bytes}
use Rattle.sea_node.specs.Node.{IsNode, node_bytes, Spells}

-- ---- sizes

pub size-append : (es fs : List Entry) → size (es ++ fs) ≡ size es + size fs
size-append es fs = sum_by-append entry_size es fs

pub size-cons : (e : Entry) (es : List Entry) → size (e ∷ es) ≡ entry_size e + size es
size-cons e es = sum_by-cons entry_size e es

pub size-one : (e : Entry) → size (e ∷ []) ≡ entry_size e
size-one e = omega (arith, size-cons e [])

pub size-cut : (n : ℕ) (es : List Entry) → size (take n es) + size (drop n es) ≡ size es
size-cut n es = sum_by-take-drop entry_size es n

pub length-entry_bytes : (e : Entry) → length (entry_bytes e) ≡ entry_size e
length-entry_bytes e =
    let k = big_endian 1 (length e.0) in
    let v = big_endian 2 (length e.1) in
    omega (arith, length-append (k ++ v ++ e.0) e.1, length-append (k ++ v) e.0, length-append k v, length-big_endian 1 (length e.0), length-big_endian 2 (length e.1))

pub entries_bytes-cons : (e : Entry) (es : List Entry) → entries_bytes (e ∷ es) ≡ entry_bytes e ++ entries_bytes es
entries_bytes-cons e es = refl

pub entries_bytes-append : (es fs : List Entry) → entries_bytes (es ++ fs) ≡ entries_bytes es ++ entries_bytes fs
entries_bytes-append es fs = flat_map-append entry_bytes es fs

pub length-entries_bytes : (es : List Entry) → length (entries_bytes es) ≡ size es
length-entries_bytes [] = refl
length-entries_bytes (e ∷ es) = omega (arith, length-append (entry_bytes e) (entries_bytes es), length-entry_bytes e, size-cons e es, length-entries_bytes es)

-- an entry takes 4 bytes at least, 1,091 at most, and above the leaves 75 at most
pub entry_size-some : (e : Entry) → IsName e.0 → 4 ≤ entry_size e
entry_size-some e name = omega arith

pub entry_size-leaf : (e : Entry) → IsName e.0 → length e.1 ≤ 1024 → entry_size e ≤ 1091
entry_size-leaf e name value = omega arith

pub entry_size-inner : (e : Entry) → IsName e.0 → length e.1 ≡ 8 → entry_size e ≤ 75
entry_size-inner e name value = omega arith

-- entries that take no bytes are none
pub no_entries : (es : List Entry) → size es ≡ 0 → es ≡ []
no_entries [] e = refl
no_entries (e ∷ es) h = absurd (omega (arith, size-cons e es))

-- one of several entries takes no more than all
pub size-le-append : (es fs : List Entry) → (size es ≤ size (es ++ fs)) × (size fs ≤ size (es ++ fs))
size-le-append es fs = (omega (arith, size-append es fs), omega (arith, size-append es fs))

size_by_recursion : (m : ℕ) (es : List Entry) → AllByRecursion (λ (e : Entry). entry_size e ≤ m) es → size es ≤ m * length es
size_by_recursion m [] all = omega arith
size_by_recursion m (e ∷ es) all = let rest = size_by_recursion m es all.1 in omega (arith, size-cons e es)

-- as many entries, none above a size
pub size-le : (m : ℕ) (es : List Entry) → All (λ e. entry_size e ≤ m) es → size es ≤ m * length es
size-le m es all = size_by_recursion m es (recursion_from_All (λ (e : Entry). entry_size e ≤ m) es all)

-- ---- nodes

pub node_parts : (level : ℕ) (es : List Entry) → node_bytes level es ≡ codes "SNOD" ++ (level ∷ [] ++ (replicate 27 0 ++ (entries_bytes es ++ replicate (4064 - size es) 0)))
unfolding node_bytes
node_parts level es = simp append_assoc

pub length-front_bytes : (level : ℕ) → length (front_bytes level) ≡ 32
unfolding front_bytes
length-front_bytes level = refl

pub node_front : (level : ℕ) (es : List Entry) → node_bytes level es ≡ front_bytes level ++ (entries_bytes es ++ replicate (4064 - size es) 0)
unfolding node_bytes front_bytes
node_front level es = simp append_assoc

pub length-node_bytes : (level : ℕ) (es : List Entry) → IsNode level es → length (node_bytes level es) ≡ 4096
length-node_bytes level es node =
    let rest = entries_bytes es ++ replicate {A = ℕ} (4064 - size es) 0 in
    omega (arith, ap length (node_parts level es), length-append (codes "SNOD") (level ∷ [] ++ (replicate 27 0 ++ rest)), length-append (replicate {A = ℕ} 27 0) rest, length-append (entries_bytes es) (replicate {A = ℕ} (4064 - size es) 0), length-entries_bytes es, length-replicate {A = ℕ} (4064 - size es) 0)

pub length-spelled : (bytes : List ℕ) (level : ℕ) (es : List Entry) → Spells bytes level es → length bytes ≡ 4096
length-spelled bytes level es spells = ap length spells.spelled ∙ length-node_bytes level es spells.node

-- an entry's fields, one behind the other
pub entry_parts : (e : Entry) (rest : List ℕ) → entry_bytes e ++ rest ≡ big_endian 1 (length e.0) ++ (big_endian 2 (length e.1) ++ (e.0 ++ (e.1 ++ rest)))
entry_parts e rest = simp append_assoc

-- the first byte of an entry is the length of its key
pub entry_first : (e : Entry) (rest : List ℕ) → IsName e.0 → entry_bytes e ++ rest ≡ length e.0 ∷ (big_endian 2 (length e.1) ++ (e.0 ++ (e.1 ++ rest)))
entry_first e rest name = entry_parts e rest ∙ ap (λ (b : List ℕ). b ++ (big_endian 2 (length e.1) ++ (e.0 ++ (e.1 ++ rest)))) (sym (one_byte (length e.0) (omega arith)))

pub same_entry : (e f : Entry) (rs ss : List ℕ) → IsEntry e → IsEntry f → entry_bytes e ++ rs ≡ entry_bytes f ++ ss → (e ≡ f) × (rs ≡ ss)
same_entry e f rs ss is_e is_f same =
    let e1 = sym (entry_parts e rs) ∙ same ∙ entry_parts f ss in
    let f1 = same_field 1 (length e.0) (length f.0) _ _ (omega arith) (omega arith) e1 in
    let f2 = same_field 2 (length e.1) (length f.1) _ _ (omega arith) (omega arith) f1.1 in
    let f3 = same_parts e.0 f.0 _ _ f1.0 f2.1 in
    let f4 = same_parts e.1 f.1 rs ss f2.0 f3.1 in
    (λ i. (f3.0 i, f4.0 i), f4.1)

-- a byte 0, or none, is no entry's first
pub ends : (e : Entry) (rest : List ℕ) (n : ℕ) → IsName e.0 → entry_bytes e ++ rest ≡ replicate n 0 → ⊥
ends e rest zero name same = let h = sym (entry_first e rest name) ∙ same in cc
ends e rest (suc n) name same = let h = sym (entry_first e rest name) ∙ same in let zero_long : length e.0 ≡ 0 = (cc) in omega arith

-- entries and zeros are told by their bytes
pub same_entries : (es fs : List Entry) (m n : ℕ) → AllByRecursion IsEntry es → AllByRecursion IsEntry fs → entries_bytes es ++ replicate m 0 ≡ entries_bytes fs ++ replicate n 0 → es ≡ fs
same_entries [] [] m n all_e all_f same = refl
same_entries [] (f ∷ fs) m n all_e all_f same =
    absurd (ends f (entries_bytes fs ++ replicate n 0) m all_f.0.0 (sym (append_assoc (entry_bytes f) (entries_bytes fs) (replicate n 0)) ∙ sym same))
same_entries (e ∷ es) [] m n all_e all_f same =
    absurd (ends e (entries_bytes es ++ replicate m 0) n all_e.0.0 (sym (append_assoc (entry_bytes e) (entries_bytes es) (replicate m 0)) ∙ same))
same_entries (e ∷ es) (f ∷ fs) m n all_e all_f same =
    let first = same_entry e f _ _ all_e.0 all_f.0 (sym (append_assoc (entry_bytes e) (entries_bytes es) (replicate m 0)) ∙ same ∙ append_assoc (entry_bytes f) (entries_bytes fs) (replicate n 0)) in
    let rest = same_entries es fs m n all_e.1 all_f.1 first.1 in
    λ i. first.0 i ∷ rest i

pub entries_of_node : (level : ℕ) (es : List Entry) → IsNode level es → AllByRecursion IsEntry es
entries_of_node level es node = recursion_from_All IsEntry es (λ k d within. (node.keys k d within, node.values k d within))

pub same_node : (level level' : ℕ) (es fs : List Entry) → IsNode level es → IsNode level' fs → node_bytes level es ≡ node_bytes level' fs → (level ≡ level') × (es ≡ fs)
same_node level level' es fs node node' same =
    let e1 = sym (node_parts level es) ∙ same ∙ node_parts level' fs in
    let f1 = same_parts (codes "SNOD") (codes "SNOD") _ _ refl e1 in
    let f2 = same_parts (level ∷ []) (level' ∷ []) _ _ refl f1.1 in
    let f3 = same_parts (replicate 27 0) (replicate 27 0) _ _ refl f2.1 in
    (ap (λ (xs : List ℕ). get_or xs 0 0) f2.0, same_entries es fs _ _ (entries_of_node level es node) (entries_of_node level' fs node') f3.1)

-- a block spells one node alone
pub one_spelled : (bytes : List ℕ) (level level' : ℕ) (es fs : List Entry) → Spells bytes level es → Spells bytes level' fs → (level ≡ level') × (es ≡ fs)
one_spelled bytes level level' es fs first second =
    same_node level level' es fs first.node second.node (sym first.spelled ∙ second.spelled)

-- ---- what appending the parts of an entry or of a node leaves

two_bytes : (n : ℕ) → big_endian 2 n ≡ n / 256 % 256 ∷ (n % 256 ∷ [])
unfolding big_endian
two_bytes n = refl

pub entry_written : (out a b c d key value : List ℕ) → length key < 256 → a ≡ out ++ length key ∷ [] → b ≡ a ++ (length value / 256 % 256 ∷ (length value % 256 ∷ [])) → c ≡ b ++ key → d ≡ c ++ value → d ≡ out ++ entry_bytes (key, value)
entry_written out a b c d key value short is_a is_b is_c is_d =
    let k = big_endian 1 (length key) in
    let v = big_endian 2 (length value) in
    let first : a ≡ out ++ k = is_a ∙ ap (λ (x : List ℕ). out ++ x) (one_byte (length key) short) in
    let second : b ≡ a ++ v = is_b ∙ ap (λ (x : List ℕ). a ++ x) (sym (two_bytes (length value))) in
    is_d ∙ ap (λ (x : List ℕ). x ++ value) (is_c ∙ ap (λ (x : List ℕ). x ++ key) (second ∙ ap (λ (x : List ℕ). x ++ v) first)) ∙ regroup out k v key value
  where
    regroup : (a b c d e : List ℕ) → a ++ b ++ c ++ d ++ e ≡ a ++ (b ++ c ++ d ++ e)
    regroup a b c d e = simp append_assoc

pub front_written : (b0 b1 b2 b3 : List ℕ) (level n : ℕ) → b0 ≡ [] → b1 ≡ b0 ++ codes "SNOD" → b2 ≡ b1 ++ level ∷ [] → n ≡ 5 → b3 ≡ take 32 b2 ++ replicate (32 - n) 0 → b3 ≡ front_bytes level
unfolding front_bytes
front_written b0 b1 b2 b3 level n is0 is1 is2 len is3 =
    let front : b2 ≡ codes "SNOD" ++ level ∷ [] = is2 ∙ ap (λ (x : List ℕ). x ++ level ∷ []) (is1 ∙ ap (λ (x : List ℕ). x ++ codes "SNOD") is0) in
    is3 ∙ ap (λ (x : List ℕ). take 32 x ++ replicate (32 - n) 0) front ∙ ap (λ (k : ℕ). codes "SNOD" ++ level ∷ [] ++ replicate (32 - k) 0) len

pub node_written : (bytes whole : List ℕ) (level n : ℕ) (es : List Entry) → IsNode level es → bytes ≡ front_bytes level ++ entries_bytes es → n ≡ length bytes → whole ≡ take 4096 bytes ++ replicate (4096 - n) 0 → whole ≡ node_bytes level es
node_written bytes whole level n es node is len is_whole =
    let taken : length bytes ≡ 32 + size es = ap length is ∙ length-append (front_bytes level) (entries_bytes es) ∙ omega (arith, length-front_bytes level, length-entries_bytes es) in
    is_whole ∙ ap (λ (x : List ℕ). x ++ replicate (4096 - n) 0) (take_all 4096 bytes (omega (arith, node.fits)) ∙ is) ∙ ap (λ (k : ℕ). front_bytes level ++ entries_bytes es ++ replicate k 0) (omega arith) ∙ append_assoc (front_bytes level) (entries_bytes es) (replicate (4064 - size es) 0) ∙ sym (node_front level es)
