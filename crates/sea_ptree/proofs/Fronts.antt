-- The fields around the entries of a node.
use Rattle.std.proofs.Common.{◌≡◌, ℕ, ◌+◌, ◌-◌, ◌*◌, ◌<◌, ◌≤◌, ◌^◌, List, [], ◌∷◌, ◌++◌, length, get_or, take, drop, replicate, refl, sym, ap, ◌∙◌, arith, append_assoc, length-append, take-append-drop}
use Rattle.std.specs.Prelude.{slice_range}
use Rattle.std.specs.List.{AllByRecursion}
use Rattle.std.proofs.lemmas.List.{length-drop, drop-drop, take_at, drop_at, get_or-drop, get_or-take}
use Rattle.sea_base.specs.Field.{big_endian}
use Rattle.sea_base.proofs.Fields.{length-big_endian, big_endian-injective}
use Rattle.sea_base.proofs.Slices.{slice_then, slice_at, same_parts}
use Rattle.sea_ptree.specs.declared.kind.Kind.{Kind}
use Rattle.sea_ptree.specs.declared.kind.Kind.TheVariants.{Mapping, Owners}
use Rattle.sea_ptree.specs.Node.{Entry, Fits, entry_bytes, word, front_bytes, node_bytes, entries_bytes, IsRising, MayStand, Spells}
use Rattle.sea_ptree.specs.Reading.{HasFront, AreRead}
use Rattle.sea_ptree.proofs.EntryBytes.{length-entry_bytes, length-entries_bytes, same_entry}

pub length-word : (kind : Kind) → length (word kind) ≡ 4
length-word Mapping = refl
length-word Owners = refl

-- the fields of a front
pub record FrontFields (kind : Kind) (level : ℕ) (bytes : List ℕ) (count : ℕ) : Type 0 where
  pub magic : slice_range bytes 0 4 ≡ word kind
  pub level_is : slice_range bytes 4 6 ≡ level ∷ 0 ∷ []
  pub count_is : slice_range bytes 6 8 ≡ big_endian 2 count
  pub zeros : slice_range bytes 8 32 ≡ replicate 24 0

front_parts : (kind : Kind) (level count : ℕ) → front_bytes kind level count ≡ word kind ++ ((level ∷ 0 ∷ []) ++ (big_endian 2 count ++ replicate 24 0))
unfolding front_bytes
front_parts kind level count = simp append_assoc

pub length-front_bytes : (kind : Kind) (level count : ℕ) → length (front_bytes kind level count) ≡ 32
length-front_bytes kind level count =
    let two = level ∷ 0 ∷ [] in
    let rest = big_endian 2 count ++ replicate {A = ℕ} 24 0 in
    omega (arith, ap length (front_parts kind level count), length-append (word kind) (two ++ rest), length-append two rest, length-append (big_endian 2 count) (replicate {A = ℕ} 24 0), length-word kind, length-big_endian 2 count)

pub front_fields : (kind : Kind) (level : ℕ) (bytes : List ℕ) (count : ℕ) → take 32 bytes ≡ front_bytes kind level count → FrontFields kind level bytes count
front_fields kind level bytes count e =
    let w = word kind in
    let two = level ∷ 0 ∷ [] in
    let n = big_endian 2 count in
    let zeros = replicate {A = ℕ} 24 0 in
    let behind = drop 32 bytes in
    let whole : bytes ≡ w ++ (two ++ (n ++ (zeros ++ behind))) = sym (take-append-drop 32 bytes) ∙ ap (λ (x : List ℕ). x ++ behind) (e ∙ front_parts kind level count) ∙ regroup w two n zeros behind in
    record {
      magic = ap (λ (b : List ℕ). slice_range b 0 4) whole ∙ slice_at [] w (two ++ (n ++ (zeros ++ behind))) 0 4 refl (omega (arith, length-word kind));
      level_is = ap (λ (b : List ℕ). slice_range b 4 6) whole ∙ slice_at w two (n ++ (zeros ++ behind)) 4 6 (length-word kind) refl;
      count_is = ap (λ (b : List ℕ). slice_range b 6 8) (whole ∙ regroup2 w two n (zeros ++ behind)) ∙ slice_at (w ++ two) n (zeros ++ behind) 6 8 (omega (arith, length-append w two, length-word kind)) (omega (arith, length-big_endian 2 count));
      zeros = ap (λ (b : List ℕ). slice_range b 8 32) (whole ∙ regroup3 w two n zeros behind) ∙ slice_at (w ++ two ++ n) zeros behind 8 32 (omega (arith, length-append (w ++ two) n, length-append w two, length-word kind, length-big_endian 2 count)) refl;
    }
  where
    regroup : (a b c d e : List ℕ) → (a ++ (b ++ (c ++ d))) ++ e ≡ a ++ (b ++ (c ++ (d ++ e)))
    regroup a b c d e = simp append_assoc

    regroup2 : (a b c d : List ℕ) → a ++ (b ++ (c ++ d)) ≡ (a ++ b) ++ (c ++ d)
    regroup2 a b c d = simp append_assoc

    regroup3 : (a b c d e : List ℕ) → a ++ (b ++ (c ++ (d ++ e))) ≡ (a ++ b ++ c) ++ (d ++ e)
    regroup3 a b c d e = simp append_assoc

pub front_told : (kind : Kind) (level : ℕ) (bytes : List ℕ) (count : ℕ) → FrontFields kind level bytes count → take 32 bytes ≡ front_bytes kind level count
unfolding front_bytes
front_told kind level bytes count fields =
    sym (slice_then bytes 0 8 32 (omega arith) (omega arith))
    ∙ ap (λ (x : List ℕ). x ++ slice_range bytes 8 32) (sym (slice_then bytes 0 6 8 (omega arith) (omega arith)) ∙ ap (λ (x : List ℕ). x ++ slice_range bytes 6 8) (sym (slice_then bytes 0 4 6 (omega arith) (omega arith))))
    ∙ (λ i. fields.magic i ++ fields.level_is i ++ fields.count_is i ++ fields.zeros i)

-- what a front is told from, by a block's bytes
pub front_from : (kind : Kind) (level : ℕ) (block bytes : List ℕ) (count : ℕ) → bytes ≡ block → length block ≡ 4096 → 1 ≤ count → count ≤ 145 → FrontFields kind level bytes count → drop (32 + 28 * count) bytes ≡ replicate (length (drop (32 + 28 * count) bytes)) 0 → HasFront kind level block count
front_from kind level block bytes count same len some room fields zeros = record {
  some = some;
  room = room;
  front = ap (take 32) (sym same) ∙ front_told kind level bytes count fields;
  zeros = ap (drop (32 + 28 * count)) (sym same) ∙ zeros ∙ ap (λ (n : ℕ). replicate n 0) (omega (arith, length-drop (32 + 28 * count) bytes, ap length same));
}

-- the field of the count gives it
pub count_from : (kind : Kind) (level : ℕ) (block bytes : List ℕ) (count n : ℕ) → bytes ≡ block → ((k : ℕ) → k < 2 ^ 16 → slice_range bytes 6 8 ≡ big_endian 2 k → n ≡ k) → HasFront kind level block count → n ≡ count
count_from kind level block bytes count n same only front =
    only count (omega (arith, front.room)) (ap (λ (b : List ℕ). slice_range b 6 8) same ∙ (front_fields kind level block count front.front).count_is)

-- ---- the whole node

node_parts : (kind : Kind) (level : ℕ) (es : List Entry) → node_bytes kind level es ≡ front_bytes kind level (length es) ++ (entries_bytes es ++ replicate (4064 - 28 * length es) 0)
unfolding node_bytes
node_parts kind level es = simp append_assoc

pub node_read : (kind : Kind) (level : ℕ) (bytes : List ℕ) (count : ℕ) (es : List Entry) → level ≤ 7 → HasFront kind level bytes count → AreRead bytes count es → IsRising es → AllByRecursion (λ e. MayStand kind level e.1) es → Spells kind bytes level es
node_read kind level bytes count es level_fits front read rising slots = record {
  node = record { level_fits = level_fits; some = omega (arith, front.some, read.count_is); room = omega (arith, front.room, read.count_is); rising = rising; fits = read.fits; slots = slots };
  spelled = sym (take-append-drop 32 bytes) ∙ ap (λ (x : List ℕ). take 32 bytes ++ x) (sym (take-append-drop (32 + 28 * count - 32) (drop 32 bytes)))
      ∙ (λ i. front.front i ++ (read.spelled i ++ behind i)) ∙ ap (λ (n : ℕ). front_bytes kind level n ++ (entries_bytes es ++ replicate (4064 - 28 * n) 0)) (sym read.count_is) ∙ sym (node_parts kind level es);
}
  where
    behind : drop (32 + 28 * count - 32) (drop 32 bytes) ≡ replicate (4064 - 28 * count) 0
    behind = drop-drop (32 + 28 * count - 32) 32 bytes ∙ ap (λ (k : ℕ). drop k bytes) (omega arith) ∙ front.zeros

-- what a node's block has around its entries, and these
pub spelled_front : (kind : Kind) (level : ℕ) (bytes : List ℕ) (es : List Entry) → Spells kind bytes level es → HasFront kind level bytes (length es)
spelled_front kind level bytes es spells =
    let front = front_bytes kind level (length es) in
    let zeros = replicate {A = ℕ} (4064 - 28 * length es) 0 in
    let is : bytes ≡ front ++ (entries_bytes es ++ zeros) = spells.spelled ∙ node_parts kind level es in
    record {
      some = spells.node.some;
      room = spells.node.room;
      front = ap (take 32) is ∙ take_at front (entries_bytes es ++ zeros) 32 (length-front_bytes kind level (length es));
      zeros = ap (drop (32 + 28 * length es)) (is ∙ sym (append_assoc front (entries_bytes es) zeros)) ∙ drop_at (front ++ entries_bytes es) zeros (32 + 28 * length es) (omega (arith, length-append front (entries_bytes es), length-front_bytes kind level (length es), length-entries_bytes es));
    }

pub spelled_read : (kind : Kind) (level : ℕ) (bytes : List ℕ) (es : List Entry) → Spells kind bytes level es → AreRead bytes (length es) es
spelled_read kind level bytes es spells =
    let front = front_bytes kind level (length es) in
    let zeros = replicate {A = ℕ} (4064 - 28 * length es) 0 in
    record {
      count_is = refl;
      fits = spells.node.fits;
      spelled = ap (λ (b : List ℕ). slice_range b 32 (32 + 28 * length es)) (spells.spelled ∙ node_parts kind level es) ∙ slice_at front (entries_bytes es) zeros 32 (32 + 28 * length es) (length-front_bytes kind level (length es)) (omega (arith, length-entries_bytes es));
    }

same_entries : (es fs : List Entry) → length es ≡ length fs → AllByRecursion Fits es → AllByRecursion Fits fs → entries_bytes es ≡ entries_bytes fs → es ≡ fs
same_entries [] [] len all_e all_f same = refl
same_entries [] (f ∷ fs) len all_e all_f same = absurd (omega arith)
same_entries (e ∷ es) [] len all_e all_f same = absurd (omega arith)
same_entries (e ∷ es) (f ∷ fs) len all_e all_f same =
    let parts = same_parts (entry_bytes e) (entry_bytes f) (entries_bytes es) (entries_bytes fs) (omega (arith, length-entry_bytes e, length-entry_bytes f)) same in
    let first = same_entry e f all_e.0 all_f.0 parts.0 in
    let rest = same_entries es fs (omega arith) all_e.1 all_f.1 parts.1 in
    λ i. first i ∷ rest i

-- a block spells one node of a level alone
pub one_spelled : (kind : Kind) (level : ℕ) (bytes : List ℕ) (es fs : List Entry) → Spells kind bytes level es → Spells kind bytes level fs → es ≡ fs
one_spelled kind level bytes es fs spells_e spells_f =
    let front_e = front_fields kind level bytes (length es) (spelled_front kind level bytes es spells_e).front in
    let front_f = front_fields kind level bytes (length fs) (spelled_front kind level bytes fs spells_f).front in
    let len : length es ≡ length fs = big_endian-injective 2 (length es) (length fs) (omega (arith, spells_e.node.room)) (omega (arith, spells_f.node.room)) (sym front_e.count_is ∙ front_f.count_is) in
    same_entries es fs len spells_e.node.fits spells_f.node.fits (sym (spelled_read kind level bytes es spells_e).spelled ∙ ap (λ (n : ℕ). slice_range bytes 32 (32 + 28 * n)) len ∙ (spelled_read kind level bytes fs spells_f).spelled)

-- the number of entries of a node is the one around them
pub front_count_is : (kind : Kind) (level : ℕ) (bytes : List ℕ) (count : ℕ) (es : List Entry) → HasFront kind level bytes count → Spells kind bytes level es → length es ≡ count
front_count_is kind level bytes count es front spells =
    let own = front_fields kind level bytes (length es) (spelled_front kind level bytes es spells).front in
    let other = front_fields kind level bytes count front.front in
    big_endian-injective 2 (length es) count (omega (arith, spells.node.room)) (omega (arith, front.room)) (sym own.count_is ∙ other.count_is)

-- the level of a node stands in its block
pub spelled_level : (kind : Kind) (level : ℕ) (bytes : List ℕ) (es : List Entry) → Spells kind bytes level es → get_or bytes 4 0 ≡ level
spelled_level kind level bytes es spells =
    let fields = front_fields kind level bytes (length es) (spelled_front kind level bytes es spells).front in
    sym (get_or-drop 4 bytes 0 0) ∙ sym (get_or-take 2 (drop 4 bytes) 0 0 (omega arith)) ∙ ap (λ (xs : List ℕ). get_or xs 0 0) fields.level_is
