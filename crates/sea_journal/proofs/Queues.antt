-- The bytes of records that wait, and what writing them leaves of an image.
use Rattle.std.proofs.Common.{◌≡◌, ℕ, zero, suc, ◌+◌, ◌-◌, ◌*◌, ◌≤◌, List, [], ◌∷◌, ◌++◌, length, take, drop, replicate, refl, sym, ap, ◌∙◌, subst, arith, append_assoc, length-append}
use Rattle.std.specs.List.{flat_map}
use Rattle.std.proofs.lemmas.List.{append-nil, drop_at, drop-drop, length-replicate, length-take-le, take_all, take_at}
use Rattle.std.proofs.lemmas.List.Concat.{flat_map-append}
use Rattle.sea_base.specs.declared.digest.Digest.{Digest}
use Rattle.sea_device.specs.Device.{overwritten}
use Rattle.sea_record.specs.Record.{BeginsWith, BeginsWithNone, IsRecord, blocks, own_digest, record_bytes}
use Rattle.sea_record.specs.declared.record.Record.{Record}
use Rattle.sea_record.proofs.RecordRules.{fits_of}
use Rattle.sea_record.proofs.Records.{length-record_bytes}
use Rattle.sea_trail.specs.Trail.{IsChain, chain_end, link_of}
use Rattle.sea_trail.specs.declared.link.Link.{Link}
use Rattle.sea_journal.specs.Links.{Linked, queue_bytes}
use Rattle.sea_journal.specs.Padding.{padded}
use Rattle.sea_journal.proofs.Rows.{continues, none_in_nothing, zeros_begin_none}

-- ---- lengths

pub length-record : (r : Record) → IsRecord r → length (record_bytes r) ≡ 4096 * blocks r.body
length-record r is = length-record_bytes r (fits_of r is)

pub padded-some : (n : ℕ) → 1 ≤ n → padded n ≡ 4096 * n + 4096
padded-some zero some = absurd (omega arith)
padded-some (suc n) some = refl

pub padded-upto : (n : ℕ) → padded n ≤ 4096 * n + 4096
padded-upto zero = omega arith
padded-upto (suc n) = omega arith

pub length-queued : (place seq : ℕ) (link : Link) (rs : List Record) → Linked place seq link rs → 4096 * place + length (flat_map record_bytes rs) ≡ 4096 * chain_end place rs
length-queued place seq link [] linked = omega arith
length-queued place seq link (r ∷ rs) linked =
    omega (arith, length-append (record_bytes r) (flat_map record_bytes rs), length-record r linked.0.is_record, length-queued (place + blocks r.body) seq (link_of r) rs linked.1)

-- ---- one more record

replicate-more : (x m n : ℕ) → replicate m x ++ replicate n x ≡ replicate (m + n) x
replicate-more x zero n = ap (λ (k : ℕ). replicate k x) (omega arith)
replicate-more x (suc m) n =
    let count : suc m + n ≡ suc (m + n) = omega arith in
    ap (λ (r : List ℕ). x ∷ r) (replicate-more x m n) ∙ ap (λ (k : ℕ). replicate k x) (sym count)

drop-replicate : (x m n : ℕ) → drop m (replicate (m + n) x) ≡ replicate n x
drop-replicate x m n =
    ap (drop m) (sym (replicate-more x m n)) ∙ drop_at (replicate m x) (replicate n x) m (length-replicate {A = ℕ} m x)

pub queue_bytes-push : (rs : List Record) (r : Record) → queue_bytes (rs ++ r ∷ []) ≡ flat_map record_bytes rs ++ record_bytes r ++ replicate 4096 0
queue_bytes-push [] r = ap (λ (b : List ℕ). b ++ replicate 4096 0) (append-nil (record_bytes r))
queue_bytes-push (x ∷ rs) r =
    ap (λ (b : List ℕ). b ++ replicate 4096 0) (flat_map-append record_bytes (x ∷ rs) (r ∷ []) ∙ ap (λ (b : List ℕ). flat_map record_bytes (x ∷ rs) ++ b) (append-nil (record_bytes r)))

-- the zeros behind records, which are none where there are no records
pub record Padded (rs : List Record) : Type 0 where
  pub zeros : ℕ
  pub few : zeros ≤ 4096
  pub is : queue_bytes rs ≡ flat_map record_bytes rs ++ replicate zeros 0

pub padded_is : (rs : List Record) → Padded rs
padded_is [] = record { zeros = 0; few = omega arith; is = refl }
padded_is (r ∷ rs) = record { zeros = 4096; few = omega arith; is = refl }

-- room for a record is made behind the others, and the record is put there
pub pushed_bytes : (rs : List Record) (r : Record) (old more new : List ℕ) (at len : ℕ) → old ≡ queue_bytes rs → at ≡ length (flat_map record_bytes rs) → len ≡ at + length (record_bytes r) + 4096
    → more ≡ take len old ++ replicate (len - length old) 0 → new ≡ take at more ++ record_bytes r ++ drop (at + length (record_bytes r)) more → new ≡ queue_bytes (rs ++ r ∷ [])
pushed_bytes rs r old more new at len old_is at_is len_is more_is new_is =
    let front = flat_map record_bytes rs in
    let size = length (record_bytes r) in
    let pad = padded_is rs in
    let is : old ≡ front ++ replicate pad.zeros 0 = old_is ∙ pad.is in
    let count : length old ≡ at + pad.zeros = omega (arith, ap length is, length-append front (replicate pad.zeros 0), length-replicate {A = ℕ} pad.zeros 0) in
    let few = pad.few in
    let all : take len old ≡ front ++ replicate pad.zeros 0 = take_all len old (omega arith) ∙ is in
    let room : more ≡ front ++ replicate (size + 4096) 0 =
    more_is ∙ ap (λ (b : List ℕ). b ++ replicate (len - length old) 0) all ∙ append_assoc front (replicate pad.zeros 0) (replicate (len - length old) 0)
    ∙ ap (λ (b : List ℕ). front ++ b) (replicate-more 0 pad.zeros (len - length old)) ∙ ap (λ (n : ℕ). front ++ replicate n 0) (omega arith) in
    let before : take at more ≡ front = ap (take at) room ∙ take_at front (replicate (size + 4096) 0) at (sym at_is) in
    let behind : drop (at + size) more ≡ replicate 4096 0 =
    sym (drop-drop size at more) ∙ ap (drop size) (ap (drop at) room ∙ drop_at front (replicate (size + 4096) 0) at (sym at_is)) ∙ drop-replicate 0 size 4096 in
    new_is ∙ ap (λ (b : List ℕ). b ++ record_bytes r ++ drop (at + size) more) before ∙ ap (λ (b : List ℕ). front ++ record_bytes r ++ b) behind ∙ sym (queue_bytes-push rs r)

-- how many bytes the records have, by the length of all
pub queued_at : (rs : List Record) (n len : ℕ) → len ≡ padded n → len ≡ length (queue_bytes rs) → 4096 * n ≡ length (flat_map record_bytes rs)
queued_at [] zero len is has = omega arith
queued_at [] (suc n) len is has = absurd (omega arith)
queued_at (r ∷ rs) zero len is has =
    absurd (omega (arith, has, length-append (flat_map record_bytes (r ∷ rs)) (replicate 4096 0), length-replicate {A = ℕ} 4096 0))
queued_at (r ∷ rs) (suc n) len is has =
    omega (arith, has, length-append (flat_map record_bytes (r ∷ rs)) (replicate 4096 0), length-replicate {A = ℕ} 4096 0)

pub pushed_link : (entry r : Record) (digest : Digest) → entry ≡ r → digest.0 ≡ own_digest entry → (let made : Link = record { mount = entry.mount; commit = entry.commit; digest = digest; tail = r.tail; root = r.root } in made ≡ link_of r)
pushed_link entry r digest is own =
    let one : List ℕ → Link = λ d. record { mount = entry.mount; commit = entry.commit; digest = record { 0 = d }; tail = r.tail; root = r.root } in
    let two : Record → Link = λ x. record { mount = x.mount; commit = x.commit; digest = record { 0 = own_digest x }; tail = r.tail; root = r.root } in
    ap one own ∙ ap two is

-- ---- records that were written

-- where records that were made to go on stand, and no record behind them, they are the chain
pub written_chain : (bytes behind : List ℕ) (place seq : ℕ) (link : Link) (rs : List Record) → Linked place seq link rs → bytes ≡ flat_map record_bytes rs ++ behind → BeginsWithNone behind → IsChain bytes place seq link rs
written_chain bytes behind place seq link [] linked is none =
    λ r here. none r (subst (λ (b : List ℕ). BeginsWith b r) is here.stands)
written_chain bytes behind place seq link (r ∷ rs) linked is none =
    let rest = flat_map record_bytes rs ++ behind in
    let split : bytes ≡ record_bytes r ++ rest = is ∙ append_assoc (record_bytes r) (flat_map record_bytes rs) behind in (
      continues bytes place seq link r linked.0 (record { is_record = linked.0.is_record; behind = rest; spelled = split }),
      written_chain (drop (4096 * blocks r.body) bytes) behind (place + blocks r.body) seq (link_of r) rs linked.1
          (ap (drop (4096 * blocks r.body)) split ∙ drop_at (record_bytes r) rest (4096 * blocks r.body) (length-record r linked.0.is_record)) none,
    )

-- the records that a batch has, and what stands behind them up to the end of the segment
pub record Laid (rs : List Record) (rest : List ℕ) : Type 0 where
  pub behind : List ℕ
  pub none : BeginsWithNone behind
  pub is : rest ≡ flat_map record_bytes rs ++ behind

-- what was written fills the segment, or has zeros at its end
pub record IsBatch (rs : List Record) (room : ℕ) (bytes : List ℕ) : Type 0 where
  pub zeros : ℕ
  pub is : bytes ≡ flat_map record_bytes rs ++ replicate zeros 0
  pub fits : length bytes ≤ room
  pub full : zeros ≡ 0 → length bytes ≡ room

front_of : (n : ℕ) (xs ys : List ℕ) → length xs ≤ n → take n (xs ++ ys) ≡ xs ++ take (n - length xs) ys
front_of n [] ys le = ap (λ (k : ℕ). take k ys) (omega arith)
front_of zero (x ∷ xs) ys le = absurd (omega arith)
front_of (suc n) (x ∷ xs) ys le = ap (λ (r : List ℕ). x ∷ r) (front_of n xs ys (omega arith) ∙ ap (λ (k : ℕ). xs ++ take k ys) (omega arith))

take-none : (n : ℕ) (ys : List ℕ) → n ≡ 0 → take n ys ≡ []
take-none zero ys e = refl
take-none (suc n) ys e = absurd (omega arith)

begins_none : (zeros : ℕ) (behind : List ℕ) (n : ℕ) → (zeros ≡ 0 → n ≡ 0) → BeginsWithNone (replicate zeros 0 ++ take n behind)
begins_none zero behind n full = subst BeginsWithNone (sym (take-none n behind (full refl))) none_in_nothing
begins_none (suc zeros) behind n full = zeros_begin_none (suc zeros) (take n behind) (omega arith)

pub laid_in : (rs : List Record) (room at : ℕ) (bytes image : List ℕ) → IsBatch rs room bytes → at ≤ length image → Laid rs (take room (drop at (overwritten at bytes image)))
laid_in rs room at bytes image batch within =
    let tail = drop (at + length bytes) image in
    let here : drop at (overwritten at bytes image) ≡ bytes ++ tail =
    ap (drop at) (append_assoc (take at image) bytes tail) ∙ drop_at (take at image) (bytes ++ tail) at (length-take-le at image within) in
    let left = room - length bytes in
    let fits = batch.fits in
    record {
      behind = replicate batch.zeros 0 ++ take left tail;
      none = begins_none batch.zeros tail left (λ e. let full = batch.full e in omega arith);
      is = ap (take room) here ∙ front_of room bytes tail fits ∙ ap (λ (b : List ℕ). b ++ take left tail) batch.is ∙ append_assoc (flat_map record_bytes rs) (replicate batch.zeros 0) (take left tail);
    }
