-- Records that the tests push.
use Rattle.std.proofs.Common.{◌≡◌, ℕ, ◌+◌, ◌/◌, ◌<◌, ◌≤◌, ◌^◌, List, [], length, refl, sym, ap, ◌∙◌, subst, arith}
use Rattle.std.proofs.lemmas.List.{length-map}
use Rattle.sea_base.specs.RootFields.{IsRoot, IsTail}
use Rattle.sea_base.specs.declared.place.Laddr.{Laddr}
use Rattle.sea_base.specs.declared.place.Root.{Root}
use Rattle.sea_base.specs.declared.place.Tail.{Tail}
use Rattle.sea_record.specs.Record.{IsRecord, metadata}
use Rattle.sea_record.specs.declared.record.Body.{Body}
use Rattle.sea_record.specs.declared.record.Change.{Change}
use Rattle.sea_record.specs.declared.record.Kind.{Kind}
use Rattle.sea_record.specs.declared.record.Kind.TheVariants.{Mount, Client, Shift, Nodes, Plain}
use Rattle.sea_record.specs.declared.record.Placed.{Placed}
use Rattle.sea_trail.specs.Trail.{mount_after}
use Rattle.sea_journal.specs.Resume.{IsBare, record_behind}
use Rattle.sea_journal.specs.declared.queue.Queue.{Queue}

mount_range : (k : Kind) (m : ℕ) → 1 ≤ m → m < 2 ^ 62 → (1 ≤ mount_after k m) × (mount_after k m < 2 ^ 63)
mount_range Mount m low high = (omega arith, omega arith)
mount_range Client m low high = (low, omega arith)
mount_range Shift m low high = (low, omega arith)
mount_range Nodes m low high = (low, omega arith)
mount_range Plain m low high = (low, omega arith)

pub bare_is : (q : Queue) (body : Body) (tail : Tail) (root : Root) → IsBare body → 1 ≤ q.link.mount → q.link.mount < 2 ^ 62 → q.link.commit.0 < 2 ^ 62 → 1 ≤ q.seq → q.seq < 2 ^ 62 → IsTail tail → IsRoot root
    → IsRecord (record_behind q.place.0 q.seq q.link body tail root)
bare_is q body tail root bare low high commit seq_low seq_high is_tail is_root =
    let none = bare.listed in
    let placed = length-map body.placed (λ (p : Placed). p.at.0) in
    let dropped = length-map body.dropped (λ (a : Laddr). a.0) in
    let changed = length-map body.changes (λ (c : Change). c.at.0) in
    record {
      mount = mount_range body.kind q.link.mount low high;
      seq = (seq_low, omega arith);
      place = omega (arith, q.within, q.few);
      commit = (omega arith, omega arith);
      tail = is_tail;
      root = is_root;
      prev = q.linked.digest;
      kind = bare.kind (q.link.commit.0 + 1);
      placed = λ k d lt. absurd (omega arith);
      nodes = λ k d lt. absurd (omega (arith, bare.nodes));
      changes = λ k d lt. absurd (omega arith);
      addresses = record {
        rise = (λ i j lt below. absurd (omega arith), λ i j lt below. absurd (omega arith), λ i j lt below. absurd (omega arith));
        given = (λ k d lt. absurd (omega arith), λ k d lt. absurd (omega arith), λ k d lt. absurd (omega arith));
        apart = (λ i j lt below. absurd (omega arith), λ i j lt below. absurd (omega arith), λ i j lt below. absurd (omega arith));
      };
      few = omega (arith, bare.few);
    }

-- a body that lists nothing, by what it is
made : Kind → List Placed → List (List ℕ) → List Laddr → List Change → List ℕ → Body
made k placed nodes dropped changes plain =
    record { kind = k; placed = placed; nodes = nodes; dropped = dropped; changes = changes; plain = plain }

same_body : (body : Body) (k : Kind) → body.kind ≡ k → body.placed ≡ [] → body.nodes ≡ [] → body.dropped ≡ [] → body.changes ≡ [] → made k [] [] [] [] body.plain ≡ body
unfolding made
same_body body k kind placed nodes dropped changes =
    ap (λ (x : Kind). made x [] [] [] [] body.plain) (sym kind)
    ∙ ap (λ (x : List Placed). made body.kind x [] [] [] body.plain) (sym placed)
    ∙ ap (λ (x : List (List ℕ)). made body.kind body.placed x [] [] body.plain) (sym nodes)
    ∙ ap (λ (x : List Laddr). made body.kind body.placed body.nodes x [] body.plain) (sym dropped)
    ∙ ap (λ (x : List Change). made body.kind body.placed body.nodes body.dropped x body.plain) (sym changes)

pub plain_is : (body : Body) → body.kind ≡ Plain → body.placed ≡ [] → body.nodes ≡ [] → body.dropped ≡ [] → body.changes ≡ [] → length body.plain ≡ 3 → IsBare body
unfolding made metadata
plain_is body kind placed nodes dropped changes len =
    subst IsBare (same_body body Plain kind placed nodes dropped changes) (record {
      kind = λ commit. record { some = omega (arith, len); listed = refl; nodes = refl };
      listed = refl;
      nodes = refl;
      few = omega (arith, ap (λ (n : ℕ). (n + 4095) / 4096) len);
    })

pub nodes_is : (body : Body) → body.kind ≡ Nodes → body.placed ≡ [] → body.nodes ≡ [] → body.dropped ≡ [] → body.changes ≡ [] → length body.plain ≡ 0 → IsBare body
unfolding made metadata
nodes_is body kind placed nodes dropped changes len =
    subst IsBare (same_body body Nodes kind placed nodes dropped changes) (record {
      kind = λ commit. record { few = omega arith; listed = refl; plain = len };
      listed = refl;
      nodes = refl;
      few = omega (arith, ap (λ (n : ℕ). (n + 4095) / 4096) len);
    })
