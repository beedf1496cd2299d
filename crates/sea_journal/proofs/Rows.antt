-- Records in a row, and which of those that were made stand in an image.
use Rattle.std.proofs.Common.{◌≡◌, ℕ, zero, suc, ◌+◌, ◌-◌, ◌*◌, ◌<◌, ◌≤◌, ◌⊎◌, List, [], ◌∷◌, ◌++◌, length, take, drop, replicate, get_or, refl, sym, ap, ◌∙◌, subst, inl, inr, arith}
use Rattle.std.specs.List.{All, Contains}
use Rattle.std.proofs.lemmas.List.{drop-drop, take_at, take-append-drop}
use Rattle.std.proofs.lemmas.List.Elements.{All-cons, All-head, All-tail, All-take}
use Rattle.std.proofs.lemmas.Bool.{cases_lt}
use Rattle.sea_record.specs.Record.{BeginsWith, BeginsWithNone, IsRecord, blocks, record_bytes, sealed}
use Rattle.sea_record.specs.Header.{header_bytes}
use Rattle.sea_record.specs.declared.record.Record.{Record}
use Rattle.sea_record.proofs.RecordRules.{fits_of}
use Rattle.sea_record.proofs.Records.{length-record_bytes}
use Rattle.sea_trail.specs.Trail.{Continues, IsChain, chain_end, last_link, link_of}
use Rattle.sea_trail.specs.declared.link.Link.{Link}
use Rattle.sea_trail.proofs.Chains.{same_begun}
use Rattle.sea_trail.proofs.Growth.{chain_end-ge}
use Rattle.sea_journal.proofs.Overlays.{front_part}
use Rattle.sea_journal.specs.Links.{IsNext, Linked, StandInRow}

-- ---- whether a record stands

pub same_number : (m n : ℕ) → (m ≡ n) ⊎ (m ≡ n → ⊥)
same_number m n =
    elim (cases_lt m n) [
      | inl lt ↦ inr (λ e. omega arith)
      | inr ge ↦ elim (cases_lt n m) [ inl gt ↦ inr (λ e. omega arith) | inr le ↦ inl (omega arith) ]
    ]

pub same_list : (xs ys : List ℕ) → (xs ≡ ys) ⊎ (xs ≡ ys → ⊥)
same_list [] [] = inl refl
same_list [] (y ∷ ys) = inr (λ e. cc)
same_list (x ∷ xs) [] = inr (λ e. cc)
same_list (x ∷ xs) (y ∷ ys) =
    elim (same_number x y) [
      | inl h ↦ elim (same_list xs ys) [
        | inl t ↦ inl (cc)
        | inr other ↦ inr (λ e. other (cc))
      ]
      | inr other ↦ inr (λ e. other (cc))
    ]

pub stands_or_not : (bytes : List ℕ) (r : Record) → IsRecord r → BeginsWith bytes r ⊎ (BeginsWith bytes r → ⊥)
stands_or_not bytes r is =
    let n = length (record_bytes r) in
    elim (same_list (take n bytes) (record_bytes r)) [
      | inl same ↦ inl (record {
        is_record = is;
        behind = drop n bytes;
        spelled = sym (take-append-drop n bytes) ∙ ap (λ (b : List ℕ). b ++ drop n bytes) same;
      })
      | inr other ↦ inr (λ begins. other (ap (take n) begins.spelled ∙ take_at (record_bytes r) begins.behind n refl))
    ]

-- ---- which records may stand

at_cons : {X : Type 0} (r : X) (rs : List X) (x : X) (k : ℕ) → k < length (r ∷ rs) → get_or (r ∷ rs) k x ≡ x → (r ≡ x) ⊎ Contains rs x
at_cons r rs x zero lt is = inl is
at_cons r rs x (suc k) lt is = inr (k, omega arith, is)

pub in_cons : {X : Type 0} (r : X) (rs : List X) (x : X) → Contains (r ∷ rs) x → (r ≡ x) ⊎ Contains rs x
in_cons r rs x has = at_cons r rs x has.0 has.1 has.2

-- of those that go on from a link, each has a greater number
pub linked_later : (place seq : ℕ) (link : Link) (rs : List Record) (x : Record) → Linked place seq link rs → Contains rs x → link.commit.0 < x.commit.0
linked_later place seq link [] x linked has = absurd (omega (arith, has.1))
linked_later place seq link (r ∷ rs) x linked has =
    elim (in_cons r rs x has) [
      | inl same ↦ (let e : r.commit.0 ≡ x.commit.0 = ap (λ (y : Record). y.commit.0) same in omega (arith, linked.0.commit))
      | inr rest ↦ omega (arith, linked.0.commit, linked_later (place + blocks r.body) seq (link_of r) rs x linked.1 rest)
    ]

pub linked_rise : (place seq : ℕ) (link : Link) (rs : List Record) → Linked place seq link rs → link.commit.0 ≤ (last_link link rs).commit.0
linked_rise place seq link [] linked = omega arith
linked_rise place seq link (r ∷ rs) linked = omega (arith, linked.0.commit, linked_rise (place + blocks r.body) seq (link_of r) rs linked.1)

-- and none a greater one than the last
pub linked_upto : (place seq : ℕ) (link : Link) (rs : List Record) (x : Record) → Linked place seq link rs → Contains rs x → x.commit.0 ≤ (last_link link rs).commit.0
linked_upto place seq link [] x linked has = absurd (omega (arith, has.1))
linked_upto place seq link (r ∷ rs) x linked has =
    elim (in_cons r rs x has) [
      | inl same ↦ (let e : r.commit.0 ≡ x.commit.0 = ap (λ (y : Record). y.commit.0) same in omega (arith, linked_rise (place + blocks r.body) seq (link_of r) rs linked.1))
      | inr rest ↦ linked_upto (place + blocks r.body) seq (link_of r) rs x linked.1 rest
    ]

-- what was made to go on does so where it stands
pub continues : (bytes : List ℕ) (place seq : ℕ) (link : Link) (r : Record) → IsNext place seq link r → BeginsWith bytes r → Continues bytes place seq link r
continues bytes place seq link r next begins = record {
  stands = begins;
  same_segment = next.same_segment;
  in_place = next.in_place;
  commit = next.commit;
  mount = next.mount;
  prev = next.prev;
}

-- The chain behind a place is a prefix of the records that were made to go on there, where of the known
-- records with greater numbers there are no others, and only known ones stand in a row.
pub clear_chain : (P : Record → Type 0) (bytes : List ℕ) (place seq : ℕ) (link : Link) (news : List Record) → Linked place seq link news
    → ((x : Record) → P x → link.commit.0 < x.commit.0 → Contains news x)
    → ((row : List Record) → StandInRow bytes place seq link row → All P row)
    → (j : ℕ) × (j ≤ length news) × IsChain bytes place seq link (take j news)
clear_chain P bytes place seq link [] linked among known = (
  0,
  omega arith,
  λ x here.
      let own = All-head P x [] (known (x ∷ []) (here, tt)) in
      let has = among x own (omega (arith, here.commit)) in
      absurd (omega (arith, has.1)),
)
clear_chain P bytes place seq link (r ∷ rs) linked among known =
    elim (stands_or_not bytes r linked.0.is_record) [
      | inl stands ↦ (
          let here = continues bytes place seq link r linked.0 stands in
          let rest = clear_chain P (drop (4096 * blocks r.body) bytes) (place + blocks r.body) seq (link_of r) rs linked.1
          (λ x own later. elim (in_cons r rs x (among x own (omega (arith, linked.0.commit, later)))) [
            | inl same ↦ (let e : r.commit.0 ≡ x.commit.0 = ap (λ (y : Record). y.commit.0) same in absurd (omega (arith, later)))
            | inr behind ↦ behind
          ])
          (λ row stand. All-tail P r row (known (r ∷ row) (here, stand))) in
          (suc rest.0, omega (arith, rest.1), (here, rest.2))
          )
      | inr other ↦ (
        0,
        omega arith,
        λ x here.
            let own = All-head P x [] (known (x ∷ []) (here, tt)) in
            let has = among x own (omega (arith, here.commit)) in
            elim (in_cons r rs x has) [
              | inl same ↦ other (subst (λ (y : Record). BeginsWith bytes y) (sym same) here.stands)
              | inr behind ↦ absurd (omega (arith, linked.0.commit, here.commit, linked_later (place + blocks r.body) seq (link_of r) rs x linked.1 behind))
            ],
      )
    ]

-- ---- rows

pub row_of_chain : (bytes : List ℕ) (place seq : ℕ) (link : Link) (rs : List Record) → IsChain bytes place seq link rs → StandInRow bytes place seq link rs
row_of_chain bytes place seq link [] chain = tt
row_of_chain bytes place seq link (r ∷ rs) chain =
    (chain.0, row_of_chain (drop (4096 * blocks r.body) bytes) (place + blocks r.body) seq (link_of r) rs chain.1)

-- a chain has each row that stands there
pub row_in_chain : (P : Record → Type 0) (bytes : List ℕ) (place seq : ℕ) (link : Link) (rs row : List Record) → IsChain bytes place seq link rs → StandInRow bytes place seq link row → All P rs → All P row
row_in_chain P bytes place seq link rs [] chain stand all = All-take P 0 rs all
row_in_chain P bytes place seq link [] (x ∷ row) chain stand all = absurd (chain x stand.0)
row_in_chain P bytes place seq link (r ∷ rs) (x ∷ row) chain stand all =
    let same : x ≡ r = same_begun bytes x r stand.0.stands chain.0.stands in
    let rest : StandInRow (drop (4096 * blocks r.body) bytes) (place + blocks r.body) seq (link_of r) row =
    subst (λ (y : Record). StandInRow (drop (4096 * blocks y.body) bytes) (place + blocks y.body) seq (link_of y) row) same stand.1 in
    All-cons P x row (subst P (sym same) (All-head P r rs all))
    (row_in_chain P (drop (4096 * blocks r.body) bytes) (place + blocks r.body) seq (link_of r) rs row chain.1 rest (All-tail P r rs all))

-- Records whose blocks keep their bytes stand in a row with those behind them.
pub longer_row : (old new : List ℕ) (place seq : ℕ) (link : Link) (rs row : List Record) → IsChain old place seq link rs
    → (let n = 4096 * (chain_end place rs - place) in take n new ≡ take n old)
    → StandInRow (drop (4096 * (chain_end place rs - place)) new) (chain_end place rs) seq (last_link link rs) row → StandInRow new place seq link (rs ++ row)
longer_row old new place seq link [] row chain same more =
    let none : 4096 * (place - place) ≡ 0 = omega arith in
    subst (λ (n : ℕ). StandInRow (drop n new) place seq link row) none more
longer_row old new place seq link (r ∷ rs) row chain same more =
    let size = 4096 * blocks r.body in
    let next = place + blocks r.body in
    let end = chain_end next rs in
    let ge : next ≤ end = chain_end-ge next rs in
    let whole = 4096 * (end - place) in
    let first : take size new ≡ take size old = front_part old new 0 size whole (omega arith) same in
    let behind = front_part old new size (4096 * (end - next)) whole (omega arith) same in
    let past : drop (4096 * (end - next)) (drop size new) ≡ drop whole new = drop-drop (4096 * (end - next)) size new ∙ ap (λ (n : ℕ). drop n new) (omega arith) in (
      record {
        stands = kept_record old new r first chain.0.stands;
        same_segment = chain.0.same_segment;
        in_place = chain.0.in_place;
        commit = chain.0.commit;
        mount = chain.0.mount;
        prev = chain.0.prev;
      },
      longer_row (drop size old) (drop size new) next seq (link_of r) rs row chain.1 behind
          (subst (λ (b : List ℕ). StandInRow b end seq (last_link (link_of r) rs) row) (sym past) more),
    )
  where
    -- a record stands as long as its blocks have their bytes
    kept_record : (old new : List ℕ) (r : Record) → take (4096 * blocks r.body) new ≡ take (4096 * blocks r.body) old → BeginsWith old r → BeginsWith new r
    kept_record old new r same begins =
        let count = 4096 * blocks r.body in
        let here : take count new ≡ record_bytes r = same ∙ ap (take count) begins.spelled ∙ take_at (record_bytes r) begins.behind count (length-record_bytes r (fits_of r begins.is_record)) in
        record {
          is_record = begins.is_record;
          behind = drop count new;
          spelled = sym (take-append-drop count new) ∙ ap (λ (b : List ℕ). b ++ drop count new) here;
        }

-- ---- zeros spell no record

first_byte : (r : Record) (rest : List ℕ) (d : ℕ) → get_or (record_bytes r ++ rest) 0 d ≡ 83
unfolding record_bytes sealed header_bytes
first_byte r rest d = refl

not_first : (n : ℕ) → n < 83 → n ≡ 83 → ⊥
not_first n lt e = omega arith

pub none_begins : (rest : List ℕ) → BeginsWithNone (0 ∷ rest)
none_begins rest r begins =
    not_first 0 (omega arith) (ap (λ (b : List ℕ). get_or b 0 1) begins.spelled ∙ first_byte r begins.behind 1)

pub none_in_nothing : BeginsWithNone []
none_in_nothing r begins =
    not_first 1 (omega arith) (ap (λ (b : List ℕ). get_or b 0 1) begins.spelled ∙ first_byte r begins.behind 1)

pub zeros_begin_none : (n : ℕ) (rest : List ℕ) → 1 ≤ n → BeginsWithNone (replicate n 0 ++ rest)
zeros_begin_none zero rest some = absurd (omega arith)
zeros_begin_none (suc n) rest some = none_begins (replicate n 0 ++ rest)
