-- What an edit leaves of a node's entries, and the splice that does it to the node's bytes.
use Rattle.std.proofs.Common.{◌≡◌, ℕ, ◌+◌, ◌-◌, ◌^◌, ◌<◌, ◌≤◌, Bool, true, false, cond, not, T, List, [], ◌∷◌, ◌++◌, length, take, drop, replicate, codes, Option, Some, None, IfSome, All, Ordering, Less, Equal, Greater, refl, sym, ap, subst, ◌∙◌, arith, append_assoc, append-nil, length-append}
use Rattle.std.specs.Ordering.{is_eq, is_lt, eq_by_cmp}
use Rattle.std.specs.Cmp.{alike_right, eq_by_cmp_equiv}
use Rattle.std.specs.Cmp.Lexicographic.{nat_list_cmp_total}
use Rattle.std.specs.FinMap.{IsAntisymmetric, slice_cmp-IsAntisymmetric, nat_cmp-IsAntisymmetric}
use Rattle.std.specs.FinMap.Entries.{put, where_key, is_sorted, find, is_sorted-put, is_sorted-where_key, find-put, find-where_key}
use Rattle.std.proofs.lemmas.List.{nil_from_length, take_at, drop_at, length-replicate, replicate-append-replicate}
use Rattle.std.proofs.lemmas.List.Concat.{flat_map-append}
use Rattle.std.proofs.lemmas.List.Elements.{All-append, All-cons, All-filter, All-weaker, filter_passes}
use Rattle.std.proofs.lemmas.List.Sums.{sum_by-append, sum_by-cons}
use Rattle.sea_base.specs.Field.{big_endian}
use Rattle.sea_base.specs.Name.{IsName}
use Rattle.sea_base.specs.Splice.{IsSplice, spliced}
use Rattle.sea_base.proofs.Fields.{length-big_endian}
use Rattle.sea_node.specs.Entries.{Entry, key_order, IsRising, edited, entries_before, entries_at, entry_size, size, entry_bytes, entries_bytes, entry_put}
use Rattle.sea_node.specs.Node.{IsNode, node_bytes}
use Rattle.sea_node.proofs.Splits.{Split, is_split}

pub key_order-IsAntisymmetric : IsAntisymmetric key_order
key_order-IsAntisymmetric = slice_cmp-IsAntisymmetric nat_cmp-IsAntisymmetric

-- the entries after a key
abbrev pub entries_after : List ℕ → List Entry → List Entry
entries_after key entries = where_key key_order (λ k. is_lt (key_order key k)) entries

pub split_at : (key : List ℕ) (entries : List Entry) → IsRising entries → Split key_order key entries
split_at key entries rising = is_split key_order key nat_list_cmp_total key_order-IsAntisymmetric entries rising

-- the entries before a key, at it and after it are all
pub entries_split : (key : List ℕ) (entries : List Entry) → IsRising entries → entries ≡ entries_before key entries ++ entries_at key entries ++ entries_after key entries
entries_split key entries rising = (split_at key entries rising).whole

pub edited-Some : (key value : List ℕ) (entries : List Entry) → IsRising entries → edited key (Some value) entries ≡ entries_before key entries ++ (key, value) ∷ entries_after key entries
edited-Some key value entries rising = (split_at key entries rising).with_value value

pub edited-None : (key : List ℕ) (entries : List Entry) → IsRising entries → edited key None entries ≡ entries_before key entries ++ entries_after key entries
edited-None key entries rising = (split_at key entries rising).with_none

-- at a key stands one entry at most, and it has this key
pub length-entries_at : (key : List ℕ) (entries : List Entry) → IsRising entries → length (entries_at key entries) ≤ 1
length-entries_at key entries rising = (split_at key entries rising).one

tied : (o : Ordering) → is_eq o ≡ true → o ≡ Equal
tied Less e = absurd (subst T (sym e) tt)
tied Equal e = refl
tied Greater e = absurd (subst T (sym e) tt)

pub entries_at-key : (key : List ℕ) (entries : List Entry) → All (λ (e : Entry). e.0 ≡ key) (entries_at key entries)
entries_at-key key entries =
    All-weaker (λ (e : Entry). eq_by_cmp key_order key e.0 ≡ true) (λ (e : Entry). e.0 ≡ key)
    (λ e passed. sym (key_order-IsAntisymmetric key e.0 (tied (key_order key e.0) passed)))
    (entries_at key entries) (filter_passes (λ (e : Entry). eq_by_cmp key_order key e.0) entries)

-- which entry stands at a key, by what is found there
pub entries_at-None : (key : List ℕ) (entries : List Entry) → find key_order key entries ≡ None → entries_at key entries ≡ []
entries_at-None key [] none = refl
entries_at-None key (e ∷ entries) none =
    elim (eq_by_cmp key_order key e.0) as (λ b. cond b (Some e.1) (find key_order key entries) ≡ None → cond b (e ∷ entries_at key entries) (entries_at key entries) ≡ []) [
      | true ↦ λ is. absurd (let no : Some e.1 ≡ None = is in cc)
      | false ↦ λ is. entries_at-None key entries is
    ] none

first_at : (key value : List ℕ) (entries : List Entry) → find key_order key entries ≡ Some value → (rest : List Entry) × (entries_at key entries ≡ (key, value) ∷ rest)
first_at key value [] found = absurd (let no : None ≡ Some value = found in cc)
first_at key value (e ∷ entries) found =
    elim (eq_by_cmp key_order key e.0) as (λ b. eq_by_cmp key_order key e.0 ≡ b → cond b (Some e.1) (find key_order key entries) ≡ Some value → (rest : List Entry) × (cond b (e ∷ entries_at key entries) (entries_at key entries) ≡ (key, value) ∷ rest)) [
      | true ↦ λ same is.
          let keys : key ≡ e.0 = key_order-IsAntisymmetric key e.0 (tied (key_order key e.0) same) in
          let values : e.1 ≡ value = let some : Some e.1 ≡ Some value = is in cc in
          (entries_at key entries, λ i. (sym keys i, values i) ∷ entries_at key entries)
      | false ↦ λ same is. first_at key value entries is
    ] refl found

pub entries_at-Some : (key value : List ℕ) (entries : List Entry) → IsRising entries → find key_order key entries ≡ Some value → entries_at key entries ≡ (key, value) ∷ []
entries_at-Some key value entries rising found =
    let first = first_at key value entries found in
    let short : length first.0 ≡ 0 = omega (arith, length-entries_at key entries rising, ap length first.1) in
    first.1 ∙ ap (λ (rest : List Entry). (key, value) ∷ rest) (nil_from_length first.0 short)

as_T : (b : Bool) → b ≡ true → T b
as_T b e = subst T (sym e) tt

as_true : (b : Bool) → T b → b ≡ true
as_true true h = refl
as_true false h = absurd h

-- an edit keeps the order
pub IsRising-edited : (key : List ℕ) (value : Option (List ℕ)) (entries : List Entry) → IsRising entries → IsRising (edited key value entries)
IsRising-edited key (Some value) entries rising =
    as_true (is_sorted key_order (put key_order key value entries)) (is_sorted-put key_order nat_list_cmp_total key value entries (as_T (is_sorted key_order entries) rising))
IsRising-edited key None entries rising =
    as_true (is_sorted key_order (edited key None entries)) (is_sorted-where_key key_order (λ k. not (eq_by_cmp key_order key k)) entries (as_T (is_sorted key_order entries) rising))

turned : {A : Type 0} (b : Bool) (x y : A) → cond (not b) x y ≡ cond b y x
turned true x y = refl
turned false x y = refl

-- what is found after an edit
pub find-edited : (q key : List ℕ) (value : Option (List ℕ)) (entries : List Entry) → find key_order q (edited key value entries) ≡ cond (eq_by_cmp key_order q key) value (find key_order q entries)
find-edited q key (Some value) entries = find-put key_order nat_list_cmp_total q key value entries
find-edited q key None entries =
    find-where_key key_order (λ k. not (eq_by_cmp key_order key k)) q (λ x t. ap (λ (o : Ordering). not (is_eq o)) (sym (alike_right nat_list_cmp_total q x key t))) entries
    ∙ turned (eq_by_cmp key_order key q) (find key_order q entries) None
    ∙ ap (λ (b : Bool). cond b None (find key_order q entries)) ((eq_by_cmp_equiv nat_list_cmp_total).symm key q)

-- what holds of each entry, and of the one that comes in, holds of each after the edit
pub All-edited : (P : Entry → Type 0) (key : List ℕ) (value : Option (List ℕ)) (entries : List Entry) → IsRising entries → All P entries → IfSome value (λ v. P (key, v)) → All P (edited key value entries)
All-edited P key (Some value) entries rising all here =
    subst (All P) (sym (edited-Some key value entries rising))
    (All-append P (entries_before key entries) ((key, value) ∷ entries_after key entries)
    (All-filter (λ (e : Entry). is_lt (key_order e.0 key)) P entries all)
    (All-cons P (key, value) (entries_after key entries) here (All-filter (λ (e : Entry). is_lt (key_order key e.0)) P entries all)))
All-edited P key None entries rising all here = All-filter (λ (e : Entry). not (eq_by_cmp key_order key e.0)) P entries all

pub length-edited-Some : (key value : List ℕ) (entries : List Entry) → IsRising entries → length (edited key (Some value) entries) + length (entries_at key entries) ≡ length entries + 1
length-edited-Some key value entries rising =
    let b = entries_before key entries in
    let t = entries_at key entries in
    let a = entries_after key entries in
    let whole : length entries ≡ length (b ++ t ++ a) = ap length (entries_split key entries rising) in
    let new : length (edited key (Some value) entries) ≡ length (b ++ (key, value) ∷ a) = ap length (edited-Some key value entries rising) in
    omega (arith, whole, new, length-append (b ++ t) a, length-append b t, length-append b ((key, value) ∷ a))

pub length-edited-None : (key : List ℕ) (entries : List Entry) → IsRising entries → length (edited key None entries) + length (entries_at key entries) ≡ length entries
length-edited-None key entries rising =
    let b = entries_before key entries in
    let t = entries_at key entries in
    let a = entries_after key entries in
    let whole : length entries ≡ length (b ++ t ++ a) = ap length (entries_split key entries rising) in
    let new : length (edited key None entries) ≡ length (b ++ a) = ap length (edited-None key entries rising) in
    omega (arith, whole, new, length-append (b ++ t) a, length-append b t, length-append b a)

pub length-entry_bytes : (entry : Entry) → length (entry_bytes entry) ≡ entry_size entry
length-entry_bytes entry =
    let k = big_endian 1 (length entry.0) in
    let v = big_endian 2 (length entry.1) in
    omega (arith, length-append (k ++ v ++ entry.0) entry.1, length-append (k ++ v) entry.0, length-append k v, length-big_endian 1 (length entry.0), length-big_endian 2 (length entry.1))

pub length-entries_bytes : (entries : List Entry) → length (entries_bytes entries) ≡ size entries
length-entries_bytes [] = refl
length-entries_bytes (e ∷ entries) =
    omega (arith, length-append (entry_bytes e) (entries_bytes entries), length-entry_bytes e, length-entries_bytes entries, sum_by-cons entry_size e entries)

pub entries_bytes-append : (xs ys : List Entry) → entries_bytes (xs ++ ys) ≡ entries_bytes xs ++ entries_bytes ys
entries_bytes-append xs ys = flat_map-append entry_bytes xs ys

-- the bytes of the entries, split at the key
pub entries_bytes_split : (key : List ℕ) (entries : List Entry) → IsRising entries → entries_bytes entries ≡ entries_bytes (entries_before key entries) ++ entries_bytes (entries_at key entries) ++ entries_bytes (entries_after key entries)
entries_bytes_split key entries rising =
    let b = entries_before key entries in
    let t = entries_at key entries in
    let a = entries_after key entries in
    ap entries_bytes (entries_split key entries rising) ∙ entries_bytes-append (b ++ t) a ∙ ap (λ (r : List ℕ). r ++ entries_bytes a) (entries_bytes-append b t)

-- and after an edit
pub entries_bytes-edited : (key : List ℕ) (value : Option (List ℕ)) (entries : List Entry) → IsRising entries → entries_bytes (edited key value entries) ≡ entries_bytes (entries_before key entries) ++ entry_put key value ++ entries_bytes (entries_after key entries)
entries_bytes-edited key (Some value) entries rising =
    let b = entries_before key entries in
    let a = entries_after key entries in
    ap entries_bytes (edited-Some key value entries rising) ∙ entries_bytes-append b ((key, value) ∷ a)
    ∙ sym (append_assoc (entries_bytes b) (entry_bytes (key, value)) (entries_bytes a))
entries_bytes-edited key None entries rising =
    let b = entries_before key entries in
    let a = entries_after key entries in
    ap entries_bytes (edited-None key entries rising) ∙ entries_bytes-append b a
    ∙ ap (λ (r : List ℕ). r ++ entries_bytes a) (sym (append-nil (entries_bytes b)))

pub size_split : (key : List ℕ) (entries : List Entry) → IsRising entries → size entries ≡ size (entries_before key entries) + size (entries_at key entries) + size (entries_after key entries)
size_split key entries rising =
    let b = entries_before key entries in
    let t = entries_at key entries in
    let a = entries_after key entries in
    ap size (entries_split key entries rising) ∙ omega (arith, sum_by-append entry_size (b ++ t) a, sum_by-append entry_size b t)

pub size_edited_split : (key : List ℕ) (value : Option (List ℕ)) (entries : List Entry) → IsRising entries → size (edited key value entries) ≡ size (entries_before key entries) + length (entry_put key value) + size (entries_after key entries)
size_edited_split key value entries rising =
    let new = entries_bytes (edited key value entries) in
    let b = entries_bytes (entries_before key entries) in
    let p = entry_put key value in
    let a = entries_bytes (entries_after key entries) in
    let is : length new ≡ length (b ++ p ++ a) = ap length (entries_bytes-edited key value entries rising) in
    omega (arith, is, length-append (b ++ p) a, length-append b p, length-entries_bytes (edited key value entries), length-entries_bytes (entries_before key entries), length-entries_bytes (entries_after key entries))

-- the size of the edited entries
pub size-edited : (key : List ℕ) (value : Option (List ℕ)) (entries : List Entry) → IsRising entries → size (edited key value entries) + size (entries_at key entries) ≡ size entries + length (entry_put key value)
size-edited key value entries rising = omega (arith, size_split key entries rising, size_edited_split key value entries rising)

pub size-edited-Some : (key value : List ℕ) (entries : List Entry) → IsRising entries → size (edited key (Some value) entries) + size (entries_at key entries) ≡ size entries + entry_size (key, value)
size-edited-Some key value entries rising = omega (arith, size-edited key (Some value) entries rising, length-entry_bytes (key, value))

pub size-edited-None : (key : List ℕ) (entries : List Entry) → IsRising entries → size (edited key None entries) + size (entries_at key entries) ≡ size entries
size-edited-None key entries rising = omega (arith, size-edited key None entries rising)

cut_parts : (cut gone : ℕ) (a b rest : List ℕ) → cut ≡ length a → gone ≡ length b → (take cut (a ++ b ++ rest) ≡ a) × (drop (cut + gone) (a ++ b ++ rest) ≡ rest)
cut_parts cut gone a b rest at out =
    (ap (take cut) (append_assoc a b rest) ∙ take_at a (b ++ rest) cut (sym at), drop_at (a ++ b) rest (cut + gone) (omega (arith, length-append a b)))

-- zeros beyond n do not show
filled : (n z zeros : ℕ) (made : List ℕ) → length made + zeros ≡ n → take n (made ++ replicate z 0 ++ replicate n 0) ≡ made ++ replicate zeros 0
filled n z zeros made fits =
    let long : length (made ++ replicate zeros 0) ≡ n = omega (arith, length-append made (replicate zeros 0), length-replicate {A = ℕ} zeros 0) in
    let more : replicate {A = ℕ} z 0 ++ replicate n 0 ≡ replicate zeros 0 ++ replicate (z + n - zeros) 0 =
    replicate-append-replicate z n 0 ∙ ap (λ (k : ℕ). replicate k 0) (omega arith) ∙ sym (replicate-append-replicate zeros (z + n - zeros) 0) in
    let same : made ++ replicate z 0 ++ replicate n 0 ≡ (made ++ replicate zeros 0) ++ replicate (z + n - zeros) 0 =
    append_assoc made (replicate z 0) (replicate n 0) ∙ ap (λ (r : List ℕ). made ++ r) more ∙ sym (append_assoc made (replicate zeros 0) (replicate (z + n - zeros) 0)) in
    ap (take n) same ∙ take_at (made ++ replicate zeros 0) (replicate (z + n - zeros) 0) n long

-- A splice in a block of n bytes.
spliced_within : (n cut gone z zeros : ℕ) (a b c d block : List ℕ) → block ≡ a ++ b ++ (d ++ replicate z 0) → cut ≡ length a → gone ≡ length b → length (a ++ c ++ d) + zeros ≡ n → take n (take cut block ++ c ++ drop (cut + gone) block ++ replicate n 0) ≡ a ++ c ++ d ++ replicate zeros 0
spliced_within n cut gone z zeros a b c d block is at out fits =
    let parts = cut_parts cut gone a b (d ++ replicate z 0) at out in
    let front : take cut block ≡ a = ap (take cut) is ∙ parts.0 in
    let back : drop (cut + gone) block ≡ d ++ replicate z 0 = ap (drop (cut + gone)) is ∙ parts.1 in
    let same : a ++ c ++ (d ++ replicate z 0) ++ replicate n 0 ≡ a ++ c ++ d ++ replicate z 0 ++ replicate n 0 =
    ap (λ (r : List ℕ). r ++ replicate n 0) (sym (append_assoc (a ++ c) d (replicate z 0))) in
    (λ i. take n (front i ++ c ++ back i ++ replicate n 0)) ∙ ap (take n) same ∙ filled n z zeros (a ++ c ++ d) fits

-- The splice that puts c in the place of b, behind a, in a block of 4,096 bytes that ends in zeros.
pub spliced-parts : (cut gone z zeros : ℕ) (a b c d : List ℕ) → cut ≡ length a → gone ≡ length b → length a + length c + length d + zeros ≡ 4096 → spliced cut gone c (a ++ b ++ d ++ replicate z 0) ≡ a ++ c ++ d ++ replicate zeros 0
unfolding spliced
spliced-parts cut gone z zeros a b c d at out fits =
    spliced_within 4096 cut gone z zeros a b c d (a ++ b ++ d ++ replicate z 0) (append_assoc (a ++ b) d (replicate z 0)) at out (omega (arith, length-append (a ++ c) d, length-append a c))

-- what stands before the entries
node_head : ℕ → List ℕ
node_head level = codes "SNOD" ++ level ∷ [] ++ replicate 27 0

node_bytes-head : (level : ℕ) (entries : List Entry) → node_bytes level entries ≡ node_head level ++ entries_bytes entries ++ replicate (4064 - size entries) 0
unfolding node_bytes node_head
node_bytes-head level entries = refl

length-node_head : (level : ℕ) → length (node_head level) ≡ 32
unfolding node_head
length-node_head level = refl

-- the splice of an edit makes the edited node's bytes of the node's
pub spliced-edited : (level cut gone : ℕ) (key : List ℕ) (value : Option (List ℕ)) (entries : List Entry) → IsRising entries → size (edited key value entries) ≤ 4064 → cut ≡ 32 + size (entries_before key entries) → gone ≡ size (entries_at key entries) → spliced cut gone (entry_put key value) (node_bytes level entries) ≡ node_bytes level (edited key value entries)
spliced-edited level cut gone key value entries rising fits starts out =
    let head = node_head level in
    let b = entries_bytes (entries_before key entries) in
    let t = entries_bytes (entries_at key entries) in
    let a = entries_bytes (entries_after key entries) in
    let p = entry_put key value in
    let z = 4064 - size entries in
    let zeros = 4064 - size (edited key value entries) in
    let before_head : length (head ++ b) ≡ 32 + size (entries_before key entries) =
    omega (arith, length-append head b, length-node_head level, length-entries_bytes (entries_before key entries)) in
    let parts = size_edited_split key value entries rising in
    let old : node_bytes level entries ≡ (head ++ b) ++ t ++ a ++ replicate z 0 =
    node_bytes-head level entries ∙ ap (λ (r : List ℕ). head ++ r ++ replicate z 0) (entries_bytes_split key entries rising) ∙ simp append_assoc in
    let new : node_bytes level (edited key value entries) ≡ (head ++ b) ++ p ++ a ++ replicate zeros 0 =
    node_bytes-head level (edited key value entries) ∙ ap (λ (r : List ℕ). head ++ r ++ replicate zeros 0) (entries_bytes-edited key value entries rising) ∙ simp append_assoc in
    ap (spliced cut gone p) old
    ∙ spliced-parts cut gone z zeros (head ++ b) t p a (starts ∙ sym before_head) (out ∙ sym (length-entries_bytes (entries_at key entries))) (omega (arith, length-entries_bytes (entries_after key entries)))
    ∙ sym new

-- the splice has room
pub splice_fits : (cut gone : ℕ) (key : List ℕ) (value : Option (List ℕ)) (entries : List Entry) → IsRising entries → size entries ≤ 4064 → size (edited key value entries) ≤ 4064 → cut ≡ 32 + size (entries_before key entries) → gone ≡ size (entries_at key entries) → IsSplice cut gone (entry_put key value)
splice_fits cut gone key value entries rising old new starts out =
    (omega (arith, size_split key entries rising), omega (arith, size_edited_split key value entries rising))

-- the value that comes in fits its length's field
pub value_fits : (key : List ℕ) (value : Option (List ℕ)) (entries : List Entry) → IsRising entries → size (edited key value entries) ≤ 4064 → IfSome value (λ v. length v < 2 ^ 16)
value_fits key (Some value) entries rising fits =
    omega (arith, size_edited_split key (Some value) entries rising, length-entry_bytes (key, value))
value_fits key None entries rising fits = tt

-- what comes in leaves no fewer entries
pub length-le-edited : (key value : List ℕ) (entries : List Entry) → IsRising entries → length entries ≤ length (edited key (Some value) entries)
length-le-edited key value entries rising = omega (arith, length-edited-Some key value entries rising, length-entries_at key entries rising)

each : {A : Type 0} (value : Option A) (P : A → Type 0) → ((a : A) → P a) → IfSome value P
each (Some a) P all = all a
each None P all = tt

-- An edit makes a node of a node, where what comes in may be in it, enough entries are left, and they fit.
pub IsNode-edited : (level : ℕ) (key : List ℕ) (value : Option (List ℕ)) (entries : List Entry) → IsNode level entries → IsName key → IfSome value (λ v. length v ≤ 1024) → (1 ≤ level → (2 ≤ length (edited key value entries)) × IfSome value (λ v. length v ≡ 8)) → 1 ≤ length (edited key value entries) → size (edited key value entries) ≤ 4064 → IsNode level (edited key value entries)
IsNode-edited level key value entries node name short above some fits = record {
  level_fits = node.level_fits;
  some = some;
  children = λ h. ((above h).0, All-edited (λ (e : Entry). length e.1 ≡ 8) key value entries node.rising (node.children h).1 (above h).1);
  keys = All-edited (λ (e : Entry). IsName e.0) key value entries node.rising node.keys (each value (λ v. IsName key) (λ v. name));
  values = All-edited (λ (e : Entry). length e.1 ≤ 1024) key value entries node.rising node.values short;
  rising = IsRising-edited key value entries node.rising;
  fits = fits;
}
