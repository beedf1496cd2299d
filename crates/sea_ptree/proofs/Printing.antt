-- What is written of a node, field by field.
use Rattle.std.proofs.Common.{◌≡◌, ℕ, ◌+◌, ◌-◌, ◌*◌, ◌≤◌, List, [], ◌∷◌, ◌++◌, length, take, drop, replicate, sym, ap, ◌∙◌, arith, append_assoc, length-append}
use Rattle.std.proofs.lemmas.List.{take_all, take_at, drop_at, drop-drop, append-nil}
use Rattle.std.proofs.lemmas.List.Concat.{flat_map-append}
use Rattle.sea_base.specs.Field.{big_endian}
use Rattle.sea_base.proofs.Fields.{length-big_endian}
use Rattle.sea_ptree.specs.declared.kind.Kind.{Kind}
use Rattle.sea_ptree.specs.Node.{Entry, word, front_bytes, node_bytes, entry_bytes, entries_bytes}
use Rattle.sea_ptree.proofs.EntryBytes.{length-entries_bytes}
use Rattle.sea_ptree.proofs.Fronts.{length-word, length-front_bytes}

-- a field that is put behind what was put before
put_behind : (front rest x : List ℕ) (at n : ℕ) → length front ≡ at → take at (front ++ rest) ++ x ++ drop (at + n) (front ++ rest) ≡ (front ++ x) ++ drop n rest
put_behind front rest x at n len =
    let behind : drop (at + n) (front ++ rest) ≡ drop n rest = sym (drop-drop n at (front ++ rest)) ∙ ap (drop n) (drop_at front rest at len) in
    λ i. take_at front rest at len i ++ x ++ behind i

-- an entry's four fields
pub entry_put : (f0 f1 f2 f3 f4 : List ℕ) (e : Entry) → f0 ≡ replicate 28 0 → f1 ≡ take 0 f0 ++ big_endian 8 e.0 ++ drop (0 + 8) f0 → f2 ≡ take 8 f1 ++ big_endian 4 e.1.at.0 ++ drop (8 + 4) f1
    → f3 ≡ take 12 f2 ++ big_endian 8 e.1.version.0 ++ drop (12 + 8) f2 → f4 ≡ take 20 f3 ++ big_endian 8 e.1.sum.0 ++ drop (20 + 8) f3 → f4 ≡ entry_bytes e
entry_put f0 f1 f2 f3 f4 e is0 is1 is2 is3 is4 =
    let k = big_endian 8 e.0 in
    let a = big_endian 4 e.1.at.0 in
    let v = big_endian 8 e.1.version.0 in
    let s = big_endian 8 e.1.sum.0 in
    let one : f1 ≡ k ++ replicate 20 0 = is1 ∙ ap (λ (x : List ℕ). take 0 x ++ k ++ drop (0 + 8) x) is0 in
    let two : f2 ≡ k ++ a ++ replicate 16 0 = is2 ∙ ap (λ (x : List ℕ). take 8 x ++ a ++ drop (8 + 4) x) one ∙ put_behind k (replicate 20 0) a 8 4 (length-big_endian 8 e.0) in
    let three : f3 ≡ k ++ a ++ v ++ replicate 8 0 = is3 ∙ ap (λ (x : List ℕ). take 12 x ++ v ++ drop (12 + 8) x) two ∙ put_behind (k ++ a) (replicate 16 0) v 12 8 (omega (arith, length-append k a, length-big_endian 8 e.0, length-big_endian 4 e.1.at.0)) in
    is4 ∙ ap (λ (x : List ℕ). take 20 x ++ s ++ drop (20 + 8) x) three ∙ put_behind (k ++ a ++ v) (replicate 8 0) s 20 8 (omega (arith, length-append (k ++ a) v, length-append k a, length-big_endian 8 e.0, length-big_endian 4 e.1.at.0, length-big_endian 8 e.1.version.0)) ∙ append-nil (k ++ a ++ v ++ s)

-- the front of a node
pub front_put : (kind : Kind) (level count n : ℕ) (b0 b1 b2 b3 b4 number : List ℕ) → b0 ≡ [] → b1 ≡ b0 ++ word kind → b2 ≡ b1 ++ level ∷ 0 ∷ [] → number ≡ take 0 (replicate 2 0) ++ big_endian 2 count ++ drop (0 + 2) (replicate 2 0) → b3 ≡ b2 ++ number → n ≡ length b3
    → b4 ≡ take 32 b3 ++ replicate (32 - n) 0 → b4 ≡ front_bytes kind level count
unfolding front_bytes
front_put kind level count n b0 b1 b2 b3 b4 number is0 is1 is2 is_number is3 len is4 =
    let w = word kind in
    let two = level ∷ 0 ∷ [] in
    let c = big_endian 2 count in
    let whole : b3 ≡ w ++ two ++ c = is3 ∙ (λ i. is2 i ++ is_number i) ∙ (λ i. is1 i ++ two ++ append-nil c i) ∙ ap (λ (x : List ℕ). x ++ w ++ two ++ c) is0 in
    let eight : length b3 ≡ 8 = omega (arith, ap length whole, length-append (w ++ two) c, length-append w two, length-word kind, length-big_endian 2 count) in
    is4 ∙ ap (λ (x : List ℕ). x ++ replicate (32 - n) 0) (take_all 32 b3 (omega (arith, eight))) ∙ ap (λ (k : ℕ). b3 ++ replicate (32 - k) 0) (len ∙ eight) ∙ ap (λ (x : List ℕ). x ++ replicate 24 0) whole

-- one entry more behind a front
pub entries_put : (front before after : List ℕ) (es : List Entry) (index : ℕ) (e : Entry) → before ≡ front ++ entries_bytes (take index es) → take (index + 1) es ≡ take index es ++ e ∷ [] → after ≡ before ++ entry_bytes e → after ≡ front ++ entries_bytes (take (index + 1) es)
entries_put front before after es index e is more pushed =
    pushed ∙ ap (λ (x : List ℕ). x ++ entry_bytes e) is ∙ append_assoc front (entries_bytes (take index es)) (entry_bytes e)
    ∙ ap (λ (x : List ℕ). front ++ (entries_bytes (take index es) ++ x)) (sym (append-nil (entry_bytes e))) ∙ ap (λ (x : List ℕ). front ++ x) (sym (flat_map-append entry_bytes (take index es) (e ∷ [])) ∙ ap entries_bytes (sym more))

-- the whole node, with zeros behind the entries
pub node_put : (kind : Kind) (level n : ℕ) (es : List Entry) (b block : List ℕ) → length es ≤ 145 → b ≡ front_bytes kind level (length es) ++ entries_bytes es → n ≡ length b → block ≡ take 4096 b ++ replicate (4096 - n) 0 → block ≡ node_bytes kind level es
unfolding node_bytes
node_put kind level n es b block room is len filled =
    let long : length b ≡ 32 + 28 * length es = omega (arith, ap length is, length-append (front_bytes kind level (length es)) (entries_bytes es), length-front_bytes kind level (length es), length-entries_bytes es) in
    let zeros : 4096 - n ≡ 4064 - 28 * length es = omega (arith, len, long) in
    filled ∙ ap (λ (x : List ℕ). x ++ replicate (4096 - n) 0) (take_all 4096 b (omega (arith, long))) ∙ (λ i. is i ++ replicate (zeros i) 0)
