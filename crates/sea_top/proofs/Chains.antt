-- Chains of records: how one grows, that there is one alone, and that zeros hold none.
use Rattle.std.proofs.Common.{◌≡◌, ℕ, zero, suc, ◌+◌, ◌*◌, ◌<◌, ◌≤◌, List, [], ◌∷◌, ◌++◌, length, get_or, take, drop, replicate, refl, sym, ap, ◌∙◌, subst, arith, append_assoc}
use Rattle.std.specs.List.{flat_map}
use Rattle.std.proofs.lemmas.List.{drop-drop, drop-take, drop_at, take_at, length-take-le, take-take, take-append-drop}
use Rattle.sea_device.specs.Device.{overwritten}
use Rattle.sea_top.specs.declared.record.PlainRecord.{PlainRecord}
use Rattle.sea_top.specs.Record.{IsPlain, BeginsWith, BeginsWithNone, blocks_of, digest_of, spelling}
use Rattle.sea_top.specs.Trail.{StandsAt, IsChain, IsTrail, Linked, chain_end, last_digest}
use Rattle.sea_top.proofs.RecordBytes.{first_byte, length-spelling, same_spelled}

not_first : (d : ℕ) → d < 83 → d ≡ 83 → ⊥
not_first d below e = omega arith

-- zeros spell no record, nor do no bytes
pub BeginsWithNone-zero : (rest : List ℕ) → BeginsWithNone (0 ∷ rest)
BeginsWithNone-zero rest plain begins =
    not_first 0 (omega arith) (ap (λ (b : List ℕ). get_or b 0 1) begins.spelled ∙ first_byte plain begins.behind 1)

pub BeginsWithNone-nil : BeginsWithNone []
BeginsWithNone-nil plain begins =
    not_first 1 (omega arith) (ap (λ (b : List ℕ). get_or b 0 1) begins.spelled ∙ first_byte plain begins.behind 1)

pub BeginsWithNone-zeros : (n : ℕ) → BeginsWithNone (replicate n 0)
BeginsWithNone-zeros zero = BeginsWithNone-nil
BeginsWithNone-zeros (suc n) = BeginsWithNone-zero (replicate n 0)

-- an image of zeros has the empty trail
pub zeros_trail : (n : ℕ) → IsTrail (replicate n 0) []
zeros_trail n plain continues = BeginsWithNone-zeros n plain continues.stands

-- a record is told by the bytes that begin with it
pub same_begun : (bytes : List ℕ) (p q : PlainRecord) → BeginsWith bytes p → BeginsWith bytes q → p ≡ q
same_begun bytes p q by_p by_q =
    same_spelled p q by_p.behind by_q.behind by_p.plain_record by_q.plain_record (sym by_p.spelled ∙ by_q.spelled)

-- there is one chain alone
pub same_chain : (image : List ℕ) (place commit : ℕ) (previous : List ℕ) (xs ys : List PlainRecord) → IsChain image place commit previous xs → IsChain image place commit previous ys → xs ≡ ys
same_chain image place commit previous [] [] chain_x chain_y = refl
same_chain image place commit previous [] (y ∷ ys) chain_x chain_y = absurd (chain_x y chain_y.0)
same_chain image place commit previous (x ∷ xs) [] chain_x chain_y = absurd (chain_y x chain_x.0)
same_chain image place commit previous (x ∷ xs) (y ∷ ys) chain_x chain_y =
    let same : y ≡ x = same_begun (drop (4096 * place) image) y x chain_y.0.stands chain_x.0.stands in
    let rest : IsChain image (place + blocks_of x.pieces) (commit + 1) (digest_of x) ys =
    subst (λ (r : PlainRecord). IsChain image (place + blocks_of r.pieces) (commit + 1) (digest_of r) ys) same chain_y.1 in
    ap (λ (r : PlainRecord). r ∷ xs) (sym same) ∙ ap (λ (rs : List PlainRecord). y ∷ rs) (same_chain image (place + blocks_of x.pieces) (commit + 1) (digest_of x) xs ys chain_x.1 rest)

-- an image has one trail alone
pub same_trail : (image : List ℕ) (xs ys : List PlainRecord) → IsTrail image xs → IsTrail image ys → xs ≡ ys
same_trail image = same_chain image 0 1 (replicate 32 0)

-- the bytes from a block on, once a record there is passed
drop_record : (image : List ℕ) (place : ℕ) (plain : PlainRecord) (behind : List ℕ) → IsPlain plain → drop (4096 * place) image ≡ spelling plain ++ behind → drop (4096 * (place + blocks_of plain.pieces)) image ≡ behind
drop_record image place plain behind is spelled =
    ap (λ (n : ℕ). drop n image) (omega arith) ∙ sym (drop-drop (4096 * blocks_of plain.pieces) (4096 * place) image) ∙ ap (drop (4096 * blocks_of plain.pieces)) spelled ∙ drop_at (spelling plain) behind (4096 * blocks_of plain.pieces) (length-spelling plain is)

-- linked records spelled from a block on, with no record behind them, are the chain there
pub spelled_chain : (image : List ℕ) (place commit : ℕ) (previous : List ℕ) (news : List PlainRecord) (tail : List ℕ) → Linked commit previous news → drop (4096 * place) image ≡ flat_map spelling news ++ tail → BeginsWithNone tail → IsChain image place commit previous news
spelled_chain image place commit previous [] tail linked spelled none =
    λ plain continues. none plain (subst (λ (b : List ℕ). BeginsWith b plain) spelled continues.stands)
spelled_chain image place commit previous (plain ∷ news) tail linked spelled none =
    let here : drop (4096 * place) image ≡ spelling plain ++ (flat_map spelling news ++ tail) = spelled ∙ append_assoc (spelling plain) (flat_map spelling news) tail in (
      record { stands = record { plain_record = linked.0; behind = flat_map spelling news ++ tail; spelled = here }; numbered = linked.1; linked = linked.2 },
      spelled_chain image (place + blocks_of plain.pieces) (commit + 1) (digest_of plain) news tail linked.3 (drop_record image place plain (flat_map spelling news ++ tail) linked.0 here) none,
    )

-- a chain ends no earlier than it begins
pub chain_end-ge : (place : ℕ) (records : List PlainRecord) → place ≤ chain_end place records
chain_end-ge place [] = omega arith
chain_end-ge place (plain ∷ records) = omega (arith, chain_end-ge (place + blocks_of plain.pieces) records)

-- a part of a front
pub front_part : (image other : List ℕ) (from count whole : ℕ) → from + count ≤ whole → take whole other ≡ take whole image → take count (drop from other) ≡ take count (drop from image)
front_part image other from count whole within same =
    let front : (bytes : List ℕ) → take count (drop from bytes) ≡ drop from (take (from + count) (take whole bytes)) = λ bytes. sym (drop-take from count bytes) ∙ ap (drop from) (sym (take-take (from + count) whole bytes within)) in
    front other ∙ ap (λ (b : List ℕ). drop from (take (from + count) b)) same ∙ sym (front image)

-- a record stands where it stood as long as its blocks have their bytes
pub kept_record : (image other : List ℕ) (place end : ℕ) (plain : PlainRecord) → place + blocks_of plain.pieces ≤ end → take (4096 * end) other ≡ take (4096 * end) image → StandsAt image place plain → StandsAt other place plain
kept_record image other place end plain within same stands =
    let count = 4096 * blocks_of plain.pieces in
    let here : take count (drop (4096 * place) other) ≡ spelling plain =
    front_part image other (4096 * place) count (4096 * end) (omega arith) same ∙ ap (take count) stands.spelled ∙ take_at (spelling plain) stands.behind count (length-spelling plain stands.plain_record) in
    record {
      plain_record = stands.plain_record;
      behind = drop count (drop (4096 * place) other);
      spelled = sym (take-append-drop count (drop (4096 * place) other)) ∙ ap (λ (b : List ℕ). b ++ drop count (drop (4096 * place) other)) here;
    }

-- A chain whose blocks keep their bytes goes on by the linked records that are spelled behind it.
pub grown_chain : (image other : List ℕ) (place commit : ℕ) (previous : List ℕ) (records news : List PlainRecord) (tail : List ℕ) → IsChain image place commit previous records → take (4096 * chain_end place records) other ≡ take (4096 * chain_end place records) image → drop (4096 * chain_end place records) other ≡ flat_map spelling news ++ tail → Linked (commit + length records) (last_digest previous records) news → BeginsWithNone tail → IsChain other place commit previous (records ++ news)
grown_chain image other place commit previous [] news tail chain same spelled linked none =
    spelled_chain other place commit previous news tail (subst (λ (n : ℕ). Linked n previous news) (omega arith) linked) spelled none
grown_chain image other place commit previous (plain ∷ records) news tail chain same spelled linked none =
    let next = place + blocks_of plain.pieces in (
      record { stands = kept_record image other place (chain_end next records) plain (chain_end-ge next records) same chain.0.stands; numbered = chain.0.numbered; linked = chain.0.linked },
      grown_chain image other next (commit + 1) (digest_of plain) records news tail chain.1 same spelled (subst (λ (n : ℕ). Linked n (last_digest (digest_of plain) records) news) (omega arith) linked) none,
    )

-- The law of growth: where the blocks of a trail keep their bytes, and linked records and then none are spelled
-- behind it, these records are added to the trail.
pub grown_trail : (image other : List ℕ) (records news : List PlainRecord) (tail : List ℕ) → IsTrail image records → take (4096 * chain_end 0 records) other ≡ take (4096 * chain_end 0 records) image → drop (4096 * chain_end 0 records) other ≡ flat_map spelling news ++ tail → Linked (1 + length records) (last_digest (replicate 32 0) records) news → BeginsWithNone tail → IsTrail other (records ++ news)
grown_trail image other records news tail = grown_chain image other 0 1 (replicate 32 0) records news tail

-- a front of bytes that are laid over is as it was
front_kept : (at : ℕ) (bytes old : List ℕ) → at ≤ length old → take at (overwritten at bytes old) ≡ take at old
front_kept at bytes old within =
    ap (take at) (append_assoc (take at old) bytes (drop (at + length bytes) old)) ∙ take_at (take at old) (bytes ++ drop (at + length bytes) old) at (length-take-le at old within)

-- The law of growth for a write at the trail's end, with no record behind it.
pub written_trail : (image : List ℕ) (records news : List PlainRecord) → IsTrail image records → 4096 * chain_end 0 records ≤ length image → Linked (1 + length records) (last_digest (replicate 32 0) records) news → BeginsWithNone (drop (4096 * chain_end 0 records + length (flat_map spelling news)) image) → IsTrail (overwritten (4096 * chain_end 0 records) (flat_map spelling news) image) (records ++ news)
written_trail image records news trail within linked none =
    let at = 4096 * chain_end 0 records in
    let bytes = flat_map spelling news in
    let tail = drop (at + length bytes) image in
    grown_trail image (overwritten at bytes image) records news tail trail (front_kept at bytes image within) (ap (drop at) (append_assoc (take at image) bytes tail) ∙ drop_at (take at image) (bytes ++ tail) at (length-take-le at image within)) linked none
