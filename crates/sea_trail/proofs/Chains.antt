-- Chains of records, as they are read, and that there is one alone.
use Rattle.std.proofs.Common.{◌≡◌, ℕ, ◌+◌, ◌*◌, ◌<◌, ◌≤◌, ◌^◌, List, [], ◌∷◌, ◌++◌, length, drop, refl, sym, ap, ◌∙◌, subst, arith, append_assoc, length-append}
use Rattle.std.proofs.lemmas.List.{append-nil, drop-drop, length-drop}
use Rattle.sea_record.specs.Record.{BeginsWith, blocks, record_bytes}
use Rattle.sea_record.specs.declared.record.Record.{Record}
use Rattle.sea_record.proofs.RecordRules.{fits_of}
use Rattle.sea_record.proofs.Records.{same_record, length-record_bytes}
use Rattle.sea_trail.specs.declared.chain.Next.{Next}
use Rattle.sea_trail.specs.declared.link.Link.{Link}
use Rattle.sea_trail.specs.declared.survey.Found.{Found}
use Rattle.sea_trail.specs.declared.trail.Part.{Part}
use Rattle.sea_trail.specs.Trail.{Continues, NoneContinues, IsChain, chain_end, first_block, last_link, link_of}
use Rattle.sea_trail.specs.Parts.{ArePlaced, GoesOn, IsPartOf}

-- a record has a block at least, and 1,024 at most
pub blocks-some : (r : Record) → 1 ≤ blocks r.body
blocks-some r = omega arith

pub blocks-few : (bytes : List ℕ) (r : Record) → BeginsWith bytes r → blocks r.body < 2 ^ 32
blocks-few bytes r begins = omega (arith, begins.is_record.few)

-- it lies within the bytes
pub within : (bytes : List ℕ) (r : Record) → BeginsWith bytes r → 4096 * blocks r.body ≤ length bytes
within bytes r begins =
    omega (arith, length-record_bytes r (fits_of r begins.is_record), length-append (record_bytes r) begins.behind, ap length begins.spelled)

pub same_begun : (bytes : List ℕ) (r s : Record) → BeginsWith bytes r → BeginsWith bytes s → r ≡ s
same_begun bytes r s by_r by_s =
    (same_record r s by_r.behind by_s.behind (fits_of r by_r.is_record) (fits_of s by_s.is_record) (sym by_r.spelled ∙ by_s.spelled)).0

-- ---- records that were read

pub chain_end-append : (place : ℕ) (xs ys : List Record) → chain_end place (xs ++ ys) ≡ chain_end (chain_end place xs) ys
chain_end-append place [] ys = refl
chain_end-append place (x ∷ xs) ys = chain_end-append (place + blocks x.body) xs ys

pub last_link-append : (link : Link) (xs ys : List Record) → last_link link (xs ++ ys) ≡ last_link (last_link link xs) ys
last_link-append link [] ys = refl
last_link-append link (x ∷ xs) ys = last_link-append (link_of x) xs ys

-- the records so far: whatever goes on behind them makes the chain with them
pub record HasRead (found : Found) (bytes : List ℕ) (at : ℕ) (p : Part) : Type 0 where
  pub header : p.header ≡ found.header
  pub goes_on : (more : List Record) → IsChain (drop at bytes) p.end.0 found.header.seq p.last more → IsChain bytes (first_block found.header.segment) found.header.seq found.link (p.records ++ more)
  pub ends : p.end.0 ≡ chain_end (first_block found.header.segment) p.records
  pub last : p.last ≡ last_link found.link p.records
  pub passed : 4096 * p.end.0 ≡ 4096 * first_block found.header.segment + at
  pub inside : at ≤ length bytes

pub HasRead-none : (found : Found) (bytes : List ℕ) (p : Part) → p.header ≡ found.header → p.records ≡ [] → p.end.0 ≡ first_block found.header.segment → p.last ≡ found.link → HasRead found bytes 0 p
HasRead-none found bytes p header records ends last = record {
  header = header;
  goes_on = λ more chain.
      let first : IsChain bytes (first_block found.header.segment) found.header.seq found.link more =
      subst (λ (l : Link). IsChain bytes (first_block found.header.segment) found.header.seq l more) last
      (subst (λ (e : ℕ). IsChain bytes e found.header.seq p.last more) ends chain) in
      subst (λ (rs : List Record). IsChain bytes (first_block found.header.segment) found.header.seq found.link (rs ++ more)) (sym records) first;
  ends = ends ∙ ap (chain_end (first_block found.header.segment)) (sym records);
  last = last ∙ ap (last_link found.link) (sym records);
  passed = omega (arith, ends);
  inside = omega arith;
}

pub HasRead-more : (found : Found) (bytes : List ℕ) (at to : ℕ) (p q : Part) (next : Next) → HasRead found bytes at p → GoesOn (drop at bytes) p next
    → to ≡ at + blocks next.entry.body * 4096 → q.header ≡ p.header → q.records ≡ p.records ++ next.entry ∷ [] → q.end.0 ≡ p.end.0 + blocks next.entry.body → q.last ≡ next.link → HasRead found bytes to q
HasRead-more found bytes at to p q next has goes to_is header records ends last =
    let r = next.entry in
    let seq_is : p.header.seq ≡ found.header.seq = ap (λ h. h.seq) has.header in
    let here : Continues (drop at bytes) p.end.0 found.header.seq p.last r = subst (λ (s : ℕ). Continues (drop at bytes) p.end.0 s p.last r) seq_is goes.continues in
    let past : drop (4096 * blocks r.body) (drop at bytes) ≡ drop to bytes = drop-drop (4096 * blocks r.body) at bytes ∙ ap (λ (n : ℕ). drop n bytes) (omega arith) in
    let last_is : q.last ≡ link_of r = last ∙ goes.link in
    let fits = within (drop at bytes) r here.stands in
    record {
      header = header ∙ has.header;
      goes_on = λ more chain.
          let on : IsChain (drop (4096 * blocks r.body) (drop at bytes)) (p.end.0 + blocks r.body) found.header.seq (link_of r) more =
          subst (λ (b : List ℕ). IsChain b (p.end.0 + blocks r.body) found.header.seq (link_of r) more) (sym past)
          (subst (λ (l : Link). IsChain (drop to bytes) (p.end.0 + blocks r.body) found.header.seq l more) last_is
          (subst (λ (e : ℕ). IsChain (drop to bytes) e found.header.seq q.last more) ends chain)) in
          let whole = has.goes_on (r ∷ more) (here, on) in
          subst (λ (rs : List Record). IsChain bytes (first_block found.header.segment) found.header.seq found.link rs) (sym (append_assoc p.records (r ∷ []) more) ∙ ap (λ (rs : List Record). rs ++ more) (sym records)) whole;
      ends = ends ∙ ap (λ (e : ℕ). e + blocks r.body) has.ends ∙ sym (chain_end-append (first_block found.header.segment) p.records (r ∷ [])) ∙ ap (chain_end (first_block found.header.segment)) (sym records);
      last = last_is ∙ sym (last_link-append found.link p.records (r ∷ [])) ∙ ap (last_link found.link) (sym records);
      passed = omega (arith, ends, has.passed);
      inside = omega (arith, fits, length-drop at bytes, has.inside);
    }

pub HasRead-all : (found : Found) (bytes : List ℕ) (at : ℕ) (p : Part) → HasRead found bytes at p → NoneContinues (drop at bytes) p.end.0 p.header.seq p.last → IsPartOf found bytes p
HasRead-all found bytes at p has none =
    let seq_is : p.header.seq ≡ found.header.seq = ap (λ h. h.seq) has.header in
    let none' : NoneContinues (drop at bytes) p.end.0 found.header.seq p.last = subst (λ (s : ℕ). NoneContinues (drop at bytes) p.end.0 s p.last) seq_is none in
    record {
      header = has.header;
      chain = subst (λ (rs : List Record). IsChain bytes (first_block found.header.segment) found.header.seq found.link rs) (append-nil p.records) (has.goes_on [] none');
      ends = has.ends;
      last = has.last;
    }

-- ---- the records of a chain name their places

pub ArePlaced-chain : (bytes : List ℕ) (place seq : ℕ) (link : Link) (rs : List Record) → IsChain bytes place seq link rs → ArePlaced place rs
ArePlaced-chain bytes place seq link [] chain = tt
ArePlaced-chain bytes place seq link (r ∷ rs) chain =
    (chain.0.in_place, ArePlaced-chain (drop (4096 * blocks r.body) bytes) (place + blocks r.body) seq (link_of r) rs chain.1)

-- ---- there is one chain alone

pub same_chain : (bytes : List ℕ) (place seq : ℕ) (link : Link) (xs ys : List Record) → IsChain bytes place seq link xs → IsChain bytes place seq link ys → xs ≡ ys
same_chain bytes place seq link [] [] chain_x chain_y = refl
same_chain bytes place seq link [] (y ∷ ys) chain_x chain_y = absurd (chain_x y chain_y.0)
same_chain bytes place seq link (x ∷ xs) [] chain_x chain_y = absurd (chain_y x chain_x.0)
same_chain bytes place seq link (x ∷ xs) (y ∷ ys) chain_x chain_y =
    let same : y ≡ x = same_begun bytes y x chain_y.0.stands chain_x.0.stands in
    let rest : IsChain (drop (4096 * blocks x.body) bytes) (place + blocks x.body) seq (link_of x) ys =
    subst (λ (r : Record). IsChain (drop (4096 * blocks r.body) bytes) (place + blocks r.body) seq (link_of r) ys) same chain_y.1 in
    ap (λ (r : Record). r ∷ xs) (sym same) ∙ ap (λ (rs : List Record). y ∷ rs) (same_chain (drop (4096 * blocks x.body) bytes) (place + blocks x.body) seq (link_of x) xs ys chain_x.1 rest)
