-- A segment is opened behind a trail.
use Rattle.std.proofs.Common.{◌≡◌, ℕ, zero, suc, ◌+◌, ◌-◌, ◌*◌, ◌/◌, ◌<◌, ◌≤◌, ◌⊎◌, List, [], ◌∷◌, ◌++◌, length, get_or, take, drop, replicate, refl, sym, ap, ◌∙◌, subst, inl, inr, arith, lit<, lit≤, length-append, Option, Some, None, IfSome}
use Rattle.std.specs.Prelude.{slice_range}
use Rattle.std.specs.List.{All, Contains}
use Rattle.std.proofs.lemmas.List.{append-nil, length-replicate, take_all}
use Rattle.std.proofs.lemmas.List.Elements.{All-head, All-nil, All-push, Contains-append_left, Contains-push, Contains-push_cases}
use Rattle.std.proofs.lemmas.Bool.{cases_lt}
use Rattle.sea_device.specs.Device.{Torn, overwritten}
use Rattle.sea_device.specs.Images.{AreBytes, overwritten_torn}
use Rattle.sea_record.specs.Record.{BeginsWith, BeginsWithNone}
use Rattle.sea_record.specs.declared.record.Record.{Record}
use Rattle.sea_segment.specs.Header.{IsHeader, SpellsHeader}
use Rattle.sea_segment.specs.declared.header.Header.{Header}
use Rattle.sea_segment.proofs.Headers.{same_header}
use Rattle.sea_trail.specs.Trail.{HasHeader, IsChain, IsNewest, IsNumbered, IsTrail, NoneContinues, StandsIn, block_of, body_of, first_block, header_block, header_link, segment_end, trail_link}
use Rattle.sea_trail.specs.declared.link.Link.{Link}
use Rattle.sea_trail.specs.declared.trail.Trail.{Trail}
use Rattle.sea_journal.specs.Links.{StandInRow}
use Rattle.sea_journal.specs.Log.{Log, DiffersBy, Extends, HasPrefix, IsAfter, IsBehind, IsBeside, IsClear, IsKnown, IsKnownHeader, IsLog, IsNextHeader, IsNoNewer, IsOfTrail, IsRolled, IsSpare, Opens, begun, header_behind, up_to_header, up_to_record}
use Rattle.sea_journal.proofs.Apart.{FoundAt, HeaderAt, find_at, found, had_header, missed, none, of_there, opened_there, some, stands_or, stays_there}
use Rattle.sea_journal.proofs.Calls.{IfSome-at}
use Rattle.sea_journal.proofs.Overlays.{slice_before, slice_inside}
use Rattle.sea_journal.proofs.Pasts.{clear_behind, own_tails, same_newest}
use Rattle.sea_journal.proofs.Rows.{none_in_nothing, row_in_chain, row_of_chain, same_number, zeros_begin_none}
use Rattle.sea_journal.proofs.Tears.{Torn-more, Torn-wider}

-- the block of a header is one of its segment
pub in_segment : (log : Log) (h : Header) (image : List ℕ) → IsBeside log h image → Torn (4096 * header_block h.segment) (4096 * 2048) log.anchor image
in_segment log h image beside = Torn-wider (4096 * header_block h.segment) 4096 (4096 * header_block h.segment) (4096 * 2048) log.anchor image (omega arith) (omega arith) beside

same_some : (x y : Header) (o : Option Header) → o ≡ Some x → o ≡ Some y → x ≡ y
same_some x y o one two = cc

pub none_some : (x : Header) (o : Option Header) → o ≡ None → o ≡ Some x → ⊥
none_some x o one two = cc

-- ---- while the header is being written

module _ (log : Log) (h : Header) (image : List ℕ) (is : IsLog log) (writing : log.next ≡ Some h) (beside : IsBeside log h image) where
  next_is : IsNextHeader log h
  next_is = IfSome-at (IsNextHeader log) h writing is.next

  later : h.seq ≡ log.trail.seq + 1
  later = ap (λ (x : Header). x.seq) next_is.is

  -- where it doesn't stand, and each header is known, the trail stays
  module _ (known : (k : Header) → HasHeader image log.trail.segments k → IsKnownHeader log k) where
    at_segment : HeaderAt image h.segment
    at_segment =
        elim (find_at image is.known.list h.segment is.known.headers) [
          | found k here stands ↦ some k here stands
          | missed nothing ↦ none (λ k here stands.
              let within : k.segment < log.trail.segments = subst (λ (s : ℕ). s < log.trail.segments) (sym here) next_is.spare.within in
              nothing k (is.known.all k (known k (record { within = within; stands = stands }))) here stands)
        ]

    pub stays_beside : (StandsIn image h → ⊥) → (u : Trail) × IsTrail image u × Extends log.trail [] u
    stays_beside other =
        let t = log.trail in
        let older : (k : Header) → HasHeader image t.segments k → IsNoNewer log.anchor t k = λ k has.
        elim (is.numbers k (known k has)) [
          | inl no_newer ↦ no_newer
          | inr next ↦ absurd (other (subst (StandsIn image) (same_some k h log.next next writing) has.stands))
        ] in
        stays_there log.anchor image h.segment (in_segment log h image beside) t is.trail next_is.spare older at_segment

  module _ (clear : IsClear log image) where
    -- where it stands it is the newest
    stands_newest : StandsIn image h → IsNewest image log.trail.segments h
    stands_newest stands =
        let upto : (k : Header) → HasHeader image log.trail.segments k → (k ≡ h) ⊎ (k.seq ≤ log.trail.seq) = λ k has.
        elim (is.numbers k (clear.headers k has)) [
          | inl older ↦ inr older.upto
          | inr next ↦ inl (same_some k h log.next next writing)
        ] in
        record {
          numbered = record {
            has = record { within = next_is.spare.within; stands = stands };
            number = refl;
            least = λ k has e. elim (upto k has) [
              | inl same ↦ omega (arith, ap (λ (x : Header). x.segment) same)
              | inr below ↦ absurd (omega (arith, later))
            ];
          };
          greatest = λ k has. elim (upto k has) [
            | inl same ↦ omega (arith, ap (λ (x : Header). x.seq) same)
            | inr below ↦ omega (arith, later)
          ];
        }

    -- and no record goes on from it
    none_there : StandsIn image h → NoneContinues (body_of image h.segment) (first_block h.segment) h.seq (header_link h)
    none_there stands x here =
        let own = All-head (IsKnown log) x [] (clear.records h (x ∷ []) (stands_newest stands) (here, tt)) in
        let commit : h.commit.0 ≡ log.trail.commit.0 = ap (λ (k : Header). k.commit.0) next_is.is in
        let number : x.commit.0 ≡ h.commit.0 + 1 = here.commit in
        elim own [
          | inl old ↦ (let upto : x.commit.0 ≤ log.trail.commit.0 = is.found x old in omega arith)
          | inr made ↦ (
              let waits : Contains log.queued x = is.made x made (omega arith) in
              let nothing : Contains [] x = subst (λ (rs : List Record). Contains rs x) next_is.alone waits in
              omega (arith, nothing.1)
              )
        ]

    pub clear_beside : HasPrefix log image
    clear_beside =
        elim (stands_or image h next_is.is_header) [
          | inl stands ↦ (
              let made = opened_there log.anchor image h.segment (in_segment log h image beside) log.trail is.trail next_is.spare h refl stands next_is.is (none_there stands) in
              up_to_header h (record { begun = writing; alone = next_is.alone; trail = made.0; is_trail = made.1; opens = made.2 })
              )
          | inr other ↦ (
              let made = stays_beside clear.headers other in
              up_to_record (record { count = 0; within = omega arith; trail = made.0; is_trail = made.1; extends = made.2 })
              )
        ]

-- ---- a clear image

pub after_none : (log : Log) (image : List ℕ) → log.next ≡ None → IsAfter log image → IsBehind log image
after_none log image steady = by_cases log.next steady
  where
    by_cases : (o : Option Header) → o ≡ None → DiffersBy log o image → IsBehind log image
    by_cases None e after = after
    by_cases (Some h) e after = absurd (cc)

pub clear_has_prefix : (log : Log) (image : List ℕ) → IsLog log → IsAfter log image → IsClear log image → HasPrefix log image
clear_has_prefix log image is after clear = by_cases log.next refl after
  where
    by_cases : (o : Option Header) → log.next ≡ o → DiffersBy log o image → HasPrefix log image
    by_cases None e behind = clear_behind log image is behind clear.records
    by_cases (Some h) e beside = clear_beside log h image is e beside clear

-- ---- a header is to be written

pub begun_is : (log : Log) (h : Header) → IsLog log → log.next ≡ None → log.queued ≡ [] → IsHeader h → h ≡ header_behind h.segment log.trail.seq (trail_link log.trail) → IsSpare log.anchor log.trail h.segment → IsLog (begun log h)
begun_is log h is steady alone is_header follows spare =
    let before : (k : Header) → IsKnownHeader log k → IsNoNewer log.anchor log.trail k = λ k own. elim (is.numbers k own) [
      | inl older ↦ older
      | inr next ↦ absurd (none_some k log.next steady next)
    ] in
    record {
      trail = is.trail;
      linked = is.linked;
      tails = is.tails;
      found = is.found;
      made = is.made;
      headers = λ k has. more k (is.headers k has);
      records = is.records;
      queued = is.queued;
      numbers = λ k own. elim own [
        | inl has ↦ inl (before k (inl has))
        | inr made ↦ elim (Contains-push_cases log.headers h k made) [
          | inl old ↦ inl (before k (inr old))
          | inr same ↦ inr (ap (λ (x : Header). Some x) same)
        ]
      ];
      known = record {
        list = is.known.list ++ h ∷ [];
        headers = All-push IsHeader is.known.list h is.known.headers is_header;
        all = λ k own. elim own [
          | inl has ↦ Contains-append_left is.known.list (h ∷ []) k (is.known.all k (inl has))
          | inr made ↦ elim (Contains-push_cases log.headers h k made) [
            | inl old ↦ Contains-append_left is.known.list (h ∷ []) k (is.known.all k (inr old))
            | inr same ↦ subst (Contains (is.known.list ++ h ∷ [])) same (Contains-push is.known.list h)
          ]
        ];
      };
      next = record { alone = alone; is_header = is_header; is = follows; spare = spare; made = Contains-push log.headers h };
    }
  where
    more : (k : Header) → IsKnownHeader log k → IsKnownHeader (begun log h) k
    more k own = elim own [
      | inl has ↦ inl has
      | inr made ↦ inr (Contains-append_left log.headers (h ∷ []) k made)
    ]

-- ---- the header stands

-- so many zeros
zeros : ℕ → List ℕ
zeros n = replicate n 0

length-zeros : (n : ℕ) → length (zeros n) ≡ n
unfolding zeros
length-zeros n = length-replicate n 0

zeros_none : (n : ℕ) → 1 ≤ n → BeginsWithNone (zeros n)
unfolding zeros
zeros_none n positive = subst BeginsWithNone (append-nil (replicate n 0)) (zeros_begin_none n [] positive)

zeros_fit : (n : ℕ) → AreBytes (zeros n)
unfolding zeros
zeros_fit zero i = lit< tt
zeros_fit (suc n) zero = lit< tt
zeros_fit (suc n) (suc i) = zeros_fit n i

-- an image with zeros behind the header of a segment
wiped : List ℕ → ℕ → List ℕ
wiped image s = overwritten (4096 * first_block s) (zeros (4096 * 2047)) image

module _ (image : List ℕ) (s : ℕ) (fits : AreBytes image) (long : 4096 * segment_end s ≤ length image) where
  wipe : Torn (4096 * first_block s) (4096 * 2047) image (wiped image s)
  unfolding wiped
  wipe =
      let count = length-zeros (4096 * 2047) in
      subst (λ (n : ℕ). Torn (4096 * first_block s) n image (overwritten (4096 * first_block s) (zeros (4096 * 2047)) image)) count
      (overwritten_torn (4096 * first_block s) (zeros (4096 * 2047)) image (omega arith) (zeros_fit (4096 * 2047)) fits)

  header_kept : block_of (wiped image s) (header_block s) ≡ block_of image (header_block s)
  unfolding wiped
  header_kept = slice_before (4096 * first_block s) (4096 * header_block s) (4096 * (header_block s + 1)) (zeros (4096 * 2047)) image (omega arith) (omega arith) (omega arith)

  body_wiped : body_of (wiped image s) s ≡ zeros (4096 * 2047)
  unfolding wiped
  body_wiped =
      let count = length-zeros (4096 * 2047) in
      let from : 4096 * first_block s - 4096 * first_block s ≡ 0 = omega arith in
      let to : 4096 * segment_end s - 4096 * first_block s ≡ 4096 * 2047 = omega arith in
      slice_inside (4096 * first_block s) (4096 * first_block s) (4096 * segment_end s) (zeros (4096 * 2047)) image (omega arith) (omega arith) (omega arith) (omega arith)
      ∙ ap (λ (n : ℕ). slice_range (zeros (4096 * 2047)) n (4096 * segment_end s - 4096 * first_block s)) from
      ∙ ap (λ (n : ℕ). slice_range (zeros (4096 * 2047)) 0 n) to
      ∙ take_all (4096 * 2047) (zeros (4096 * 2047)) (omega arith)

  unwiped : Torn (4096 * first_block s) (4096 * (segment_end s - first_block s)) (wiped image s) image
  unwiped =
      let back : Torn (4096 * first_block s) (4096 * 2047) (wiped image s) image = record { size = sym wipe.size; before = sym wipe.before; after = sym wipe.after; fits = fits } in
      Torn-wider (4096 * first_block s) (4096 * 2047) (4096 * first_block s) (4096 * (segment_end s - first_block s)) (wiped image s) image (omega arith) (omega arith) back

-- The segment is open: the anchor has its header, and zeros behind it.
pub record Finished (log : Log) (h : Header) (image : List ℕ) : Type 0 where
  pub new : Log
  pub trail : Opens log.trail h new.trail
  pub opened : new.opened ≡ log.opened
  pub headers : new.headers ≡ log.headers
  pub made : new.made ≡ log.made
  pub queued : new.queued ≡ []
  pub next : new.next ≡ None
  pub is_log : IsLog new
  pub behind : IsBehind new image
  pub before : (s n : ℕ) → IsOfTrail new.anchor new.trail s n → IsOfTrail log.anchor log.trail s n ⊎ ((s ≡ h.segment) × (n ≡ h.seq))

module _ (log : Log) (h : Header) (image : List ℕ) (is : IsLog log) (writing : log.next ≡ Some h) (beside : IsBeside log h image) (stands : StandsIn image h) where
  own : IsNextHeader log h
  own = next_is log h image is writing beside

  long : 4096 * segment_end h.segment ≤ length image
  long =
      let segments = is.trail.is_open.super.long in
      let within = own.spare.within in
      let size : length image ≡ length log.anchor = beside.size in
      omega arith

  torn : Torn (4096 * header_block h.segment) (4096 * 2048) log.anchor (wiped image h.segment)
  torn =
      Torn-more (4096 * header_block h.segment) (4096 * 2048) log.anchor image (wiped image h.segment) (in_segment log h image beside)
      (Torn-wider (4096 * first_block h.segment) (4096 * 2047) (4096 * header_block h.segment) (4096 * 2048) image (wiped image h.segment) (omega arith) (omega arith) (wipe image h.segment beside.fits long))

  stands_wiped : StandsIn (wiped image h.segment) h
  stands_wiped = subst (λ (b : List ℕ). SpellsHeader b h) (sym (header_kept image h.segment beside.fits long)) stands

  none_wiped : NoneContinues (body_of (wiped image h.segment) h.segment) (first_block h.segment) h.seq (header_link h)
  none_wiped x here = zeros_none (4096 * 2047) (lit≤ tt) x (subst (λ (b : List ℕ). BeginsWith b x) (body_wiped image h.segment beside.fits long) here.stands)

  -- what stands in the segment is the header
  in_place : (k : Header) → HasHeader (wiped image h.segment) log.trail.segments k → (k ≡ h) ⊎ ((k.segment ≡ h.segment → ⊥) × HasHeader log.anchor log.trail.segments k)
  in_place k has =
      elim (same_number k.segment h.segment) [
        | inl same ↦ inl (same_header (block_of (wiped image h.segment) (header_block h.segment)) k h (subst (λ (n : ℕ). SpellsHeader (block_of (wiped image h.segment) (header_block n)) k) same has.stands) stands_wiped)
        | inr other ↦ inr (other, had_header log.anchor (wiped image h.segment) h.segment torn log.trail.segments k other has)
      ]

  module _ (u : Trail) (trail : IsTrail (wiped image h.segment) u) (opens : Opens log.trail h u) where
    seq_is : h.seq ≡ log.trail.seq + 1
    seq_is = ap (λ (x : Header). x.seq) own.is

    tail_is : u.tail.seq ≡ log.trail.tail.seq
    tail_is = ap (λ (l : Link). l.tail.seq) opens.last ∙ ap (λ (x : Header). x.tail.seq) own.is

    -- a segment of the trail was one before, or is the one that was opened
    of_either : (s n : ℕ) → IsOfTrail (wiped image h.segment) u s n → IsOfTrail log.anchor log.trail s n ⊎ ((s ≡ h.segment) × (n ≡ h.seq))
    of_either s n of =
        let has : HasHeader (wiped image h.segment) log.trail.segments of.header = subst (λ (m : ℕ). HasHeader (wiped image h.segment) m of.header) opens.segments of.numbered.has in
        elim (in_place of.header has) [
          | inl same ↦ inr (sym of.here ∙ ap (λ (x : Header). x.segment) same, sym of.numbered.number ∙ ap (λ (x : Header). x.seq) same)
          | inr had ↦ inl (of_there log.anchor (wiped image h.segment) h.segment torn log.trail is.trail own.spare u opens.segments tail_is s n (λ e. had.0 (of.here ∙ e)) of)
        ]

    of_before : (s n : ℕ) → n ≤ log.trail.seq → IsOfTrail (wiped image h.segment) u s n → IsOfTrail log.anchor log.trail s n
    of_before s n high of =
        elim (of_either s n of) [
          | inl old ↦ old
          | inr open_one ↦ absurd (omega (arith, open_one.1, seq_is))
        ]

    no_records : All (IsKnown log) trail.newest.records
    no_records =
        let q = trail.newest in
        let top : IsNewest (wiped image h.segment) log.trail.segments q.header = subst (λ (n : ℕ). IsNewest (wiped image h.segment) n q.header) opens.segments trail.is_open.newest in
        let at : q.header.segment ≡ h.segment = sym trail.active ∙ opens.active in
        let same : q.header ≡ h = same_header (block_of (wiped image h.segment) (header_block h.segment)) q.header h (subst (λ (n : ℕ). SpellsHeader (block_of (wiped image h.segment) (header_block n)) q.header) at top.numbered.has.stands) stands_wiped in
        let row : StandInRow (body_of (wiped image h.segment) h.segment) (first_block h.segment) h.seq (header_link h) q.records = subst (λ (k : Header). StandInRow (body_of (wiped image h.segment) k.segment) (first_block k.segment) k.seq (header_link k) q.records) same
        (row_of_chain (body_of (wiped image h.segment) q.header.segment) (first_block q.header.segment) q.header.seq (header_link q.header) q.records trail.is_open.chain.chain) in
        row_in_chain (IsKnown log) (body_of (wiped image h.segment) h.segment) (first_block h.segment) h.seq (header_link h) [] q.records none_wiped row (All-nil (IsKnown log))

    opened_log : Log
    opened_log = record log { anchor = wiped image h.segment; trail = u; queued = []; next = None }

    known_still : (k : Header) → HasHeader log.opened u.segments k ⊎ Contains log.headers k → IsKnownHeader log k
    known_still k known = elim known [
      | inl there ↦ inl (subst (λ (n : ℕ). HasHeader log.opened n k) opens.segments there)
      | inr here ↦ inr here
    ]

    known_again : (k : Header) → IsKnownHeader log k → HasHeader log.opened u.segments k ⊎ Contains log.headers k
    known_again k known = elim known [
      | inl there ↦ inl (subst (λ (n : ℕ). HasHeader log.opened n k) (sym opens.segments) there)
      | inr here ↦ inr here
    ]

    older : (k : Header) → IsKnownHeader log k → IsNoNewer (wiped image h.segment) u k
    older k known =
        elim (is.numbers k known) [
          | inl no_newer ↦ record {
            upto = omega (arith, no_newer.upto, opens.seq, seq_is);
            behind = λ s of. no_newer.behind s (of_before s k.seq no_newer.upto of);
          }
          | inr next ↦ (
              let same : k ≡ h = same_some k h log.next next writing in
              let there : HasHeader (wiped image h.segment) u.segments k = subst (λ (n : ℕ). HasHeader (wiped image h.segment) n k) (sym opens.segments) (subst (HasHeader (wiped image h.segment) log.trail.segments) (sym same) (record { within = own.spare.within; stands = stands_wiped })) in
              record {
                upto = omega (arith, ap (λ (x : Header). x.seq) same, opens.seq);
                behind = λ s of. omega (arith, of.numbered.least k there refl, of.here);
              }
              )
        ]

    opened_is : IsLog opened_log
    unfolding opened_log
    opened_is =
        let commit : u.commit.0 ≡ log.trail.commit.0 = ap (λ (l : Link). l.commit.0) opens.last ∙ ap (λ (x : Header). x.commit.0) own.is in
        record {
          trail = trail;
          linked = tt;
          tails = own_tails (wiped image h.segment) u trail;
          found = λ x on. omega (arith, is.found x on, commit);
          made = λ x known more. subst (λ (rs : List Record). Contains rs x) own.alone (is.made x known (omega (arith, commit)));
          headers = λ k has. known_again k (elim (in_place k (subst (λ (n : ℕ). HasHeader (wiped image h.segment) n k) opens.segments has)) [
            | inl same ↦ inr (subst (Contains log.headers) (sym same) own.made)
            | inr had ↦ is.headers k had.1
          ]);
          records = no_records;
          queued = All-nil (Contains log.made);
          numbers = λ k known. inl (older k (known_still k known));
          known = record { list = is.known.list; headers = is.known.headers; all = λ k known. is.known.all k (known_still k known) };
          next = tt;
        }

    behind_is : IsBehind opened_log image
    unfolding opened_log
    behind_is =
        subst (λ (e : ℕ). Torn (4096 * e) (4096 * (segment_end u.active - e)) (wiped image h.segment) image) (sym opens.ends)
        (subst (λ (s : ℕ). Torn (4096 * first_block h.segment) (4096 * (segment_end s - first_block h.segment)) (wiped image h.segment) image) (sym opens.active)
        (unwiped image h.segment beside.fits long))

    made_finished : Finished log h image
    unfolding opened_log
    made_finished = record {
      new = opened_log;
      trail = opens;
      opened = refl;
      headers = refl;
      made = refl;
      queued = refl;
      next = refl;
      is_log = opened_is;
      behind = behind_is;
      before = of_either;
    }

  pub finished : Finished log h image
  finished =
      let made = opened_there log.anchor (wiped image h.segment) h.segment torn log.trail is.trail own.spare h refl stands_wiped own.is none_wiped in
      made_finished made.0 made.1 made.2
