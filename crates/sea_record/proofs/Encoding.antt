-- What is appended while a record is spelled.
use Rattle.std.proofs.Common.{◌≡◌, ℕ, ◌-◌, ◌*◌, ◌≤◌, List, [], ◌++◌, length, take, drop, replicate, refl, sym, ap, ◌∙◌, arith, append_assoc, length-append}
use Rattle.std.proofs.lemmas.List.{take_all, take_at, length-replicate}
use Rattle.sea_base.specs.Digest.{sha256}
use Rattle.sea_base.specs.Field.{big_endian}
use Rattle.sea_record.specs.Entries.{mark_bytes, address_bytes, change_bytes, counted}
use Rattle.sea_record.specs.Header.{header_bytes}
use Rattle.sea_record.specs.Parts.{Fits}
use Rattle.sea_record.specs.Record.{listed, metadata, payload, metadata_blocks, header_of, zeros, sealed, own_digest, record_bytes}
use Rattle.sea_record.specs.declared.record.Body.{Body}
use Rattle.sea_record.specs.declared.record.Placed.{Placed}
use Rattle.sea_record.specs.declared.record.Record.{Record}
use Rattle.sea_record.proofs.MetadataLengths.{metadata_lists}
use Rattle.sea_record.proofs.Headers.{length-header_bytes}
use Rattle.sea_record.proofs.ReadRecords.{resealed}
use Rattle.sea_record.proofs.Records.{length-zeros, record_bytes_is}

pub padded : (old new : List ℕ) (n end : ℕ) → n ≡ length old → length old ≤ end → new ≡ take end old ++ replicate (end - n) 0 → new ≡ old ++ zeros (end - length old)
unfolding zeros
padded old new n end len within e =
    e ∙ ap (λ (x : List ℕ). x ++ replicate (end - n) 0) (take_all end old within) ∙ ap (λ (k : ℕ). old ++ replicate (end - k) 0) len

pub mark_pushed : (at version sum : ℕ) (b0 b1 b2 b3 : List ℕ) → b1 ≡ b0 ++ big_endian 8 at → b2 ≡ b1 ++ big_endian 8 version → b3 ≡ b2 ++ big_endian 8 sum → b3 ≡ b0 ++ mark_bytes at version sum
mark_pushed at version sum b0 b1 b2 b3 e1 e2 e3 =
    e3 ∙ ap (λ (b : List ℕ). b ++ big_endian 8 sum) (e2 ∙ ap (λ (b : List ℕ). b ++ big_endian 8 version) e1) ∙ simp append_assoc

-- the header block, and the metadata in whole blocks
abbrev pub IsFront : Record → List ℕ → Type 0
IsFront r front = front ≡ header_bytes (header_of r (replicate 32 0)) ++ zeros 3920

abbrev pub IsBack : Body → List ℕ → Type 0
IsBack body back = back ≡ metadata body ++ zeros (4096 * metadata_blocks body - length (metadata body))

pub length-header : (r : Record) (b1 : List ℕ) → Fits r → b1 ≡ [] ++ header_bytes (header_of r (replicate 32 0)) → length b1 ≡ 176
length-header r b1 fits e = ap length e ∙ length-header_bytes (header_of r (replicate 32 0)) fits.header.prev (length-replicate {A = ℕ} 32 0)

pub front_made : (r : Record) (b1 b2 : List ℕ) → Fits r → b1 ≡ [] ++ header_bytes (header_of r (replicate 32 0)) → b2 ≡ b1 ++ zeros (4096 - length b1) → IsFront r b2
front_made r b1 b2 fits e f =
    let len = length-header r b1 fits e in
    f ∙ ap (λ (k : ℕ). b1 ++ zeros k) (omega arith) ∙ ap (λ (x : List ℕ). x ++ zeros 3920) e

pub length-front : (r : Record) (front : List ℕ) → Fits r → IsFront r front → length front ≡ 4096
length-front r front fits e =
    let hb = header_bytes (header_of r (replicate 32 0)) in
    omega (arith, ap length e, length-append hb (zeros 3920), length-zeros 3920, length-header r hb fits refl)

pub length-back : (body : Body) (back : List ℕ) → IsBack body back → length back ≡ 4096 * metadata_blocks body
length-back body back e =
    let n = length (metadata body) in
    omega (arith, ap length e, length-append (metadata body) (zeros (4096 * metadata_blocks body - n)), length-zeros (4096 * metadata_blocks body - n))

pub back_made : (body : Body) (b1 b2 : List ℕ) (end : ℕ) → b1 ≡ [] ++ metadata body → end ≡ 4096 * metadata_blocks body → b2 ≡ b1 ++ zeros (end - length b1) → IsBack body b2
back_made body b1 b2 end e is f =
    f ∙ ap (λ (k : ℕ). b1 ++ zeros k) (omega (arith, is, ap length e)) ∙ ap (λ (x : List ℕ). x ++ zeros (4096 * metadata_blocks body - length (metadata body))) e

-- laid one behind the other they are the record, with zeros in the place of its digest
pub parts_sealed : (r : Record) (front back : List ℕ) → IsFront r front → IsBack r.body back → front ++ payload r.body ++ back ≡ sealed r (replicate 32 0)
unfolding sealed
parts_sealed r front back f b =
    let p = payload r.body in
    let hz = header_bytes (header_of r (replicate 32 0)) ++ zeros 3920 in
    let m = metadata r.body in
    let z = zeros (4096 * metadata_blocks r.body - length m) in
    ap (λ (x : List ℕ). x ++ p ++ back) f ∙ ap (λ (x : List ℕ). hz ++ p ++ x) b ∙ sym (append_assoc (hz ++ p) m z)

pub finished : (r : Record) (b5 b6 digest : List ℕ) → Fits r → b5 ≡ sealed r (replicate 32 0) → digest ≡ sha256 b5 → b6 ≡ take 144 b5 ++ digest ++ drop 176 b5 → b6 ≡ record_bytes r
unfolding own_digest
finished r b5 b6 digest fits e is f =
    let own : digest ≡ own_digest r = is ∙ ap sha256 e in
    f ∙ ap (λ (x : List ℕ). take 144 x ++ digest ++ drop 176 x) e ∙ resealed r (replicate 32 0) digest fits.header.prev (length-replicate {A = ℕ} 32 0) ∙ ap (sealed r) own ∙ sym (record_bytes_is r)

pub metadata_pushed : (body : Body) (b0 b1 b2 b3 : List ℕ) → 1 ≤ listed body → b1 ≡ b0 ++ counted (λ p. mark_bytes p.at.0 p.version.0 p.sum.0) body.placed → b2 ≡ b1 ++ counted address_bytes body.dropped → b3 ≡ b2 ++ counted change_bytes body.changes → b3 ≡ b0 ++ metadata body
metadata_pushed body b0 b1 b2 b3 some e1 e2 e3 =
    let a = counted (λ (p : Placed). mark_bytes p.at.0 p.version.0 p.sum.0) body.placed in
    let b = counted address_bytes body.dropped in
    let c = counted change_bytes body.changes in
    e3 ∙ ap (λ (x : List ℕ). x ++ c) (e2 ∙ ap (λ (x : List ℕ). x ++ b) e1 ∙ append_assoc b0 a b) ∙ append_assoc b0 (a ++ b) c ∙ ap (λ (x : List ℕ). b0 ++ x) (sym (metadata_lists body some))

-- what a write into the whole of a vector leaves
pub written_back : (x old : List ℕ) (n : ℕ) → n ≡ length old → length x ≡ length old → take n (x ++ drop (length x) old) ≡ x
written_back x old n len same = take_at x (drop (length x) old) n (same ∙ sym len)
