-- Which nodes a merge and a relocation read and write, step by step.
use Rattle.std.proofs.Common.{◌≡◌, ℕ, zero, suc, ◌-◌, ◌<◌, ◌≤◌, List, [], set, refl, sym, subst, ◌∙◌, arith, inl, inr}
use Rattle.sea_base.specs.declared.place.PRoot.{PRoot}
use Rattle.sea_ptree.specs.declared.kind.Kind.{Kind}
use Rattle.sea_ptree.specs.declared.link.Link.{Link}
use Rattle.sea_ptree.specs.declared.making.Fresh.{Fresh}
use Rattle.sea_ptree.specs.declared.making.Making.{Making}
use Rattle.sea_ptree.specs.Blocks.{Image, Held, Keeps}
use Rattle.sea_ptree.specs.Laying.{pairs_laid_over}
use Rattle.sea_ptree.specs.Making.{Took, Wrote, Starts, IsMade}
use Rattle.sea_ptree.specs.Mending.{IsSettled, SettlesRoot, root_of}
use Rattle.sea_ptree.specs.Merging.{Towards, LaysBelow, LaysFrom, Lays, first_key}
use Rattle.sea_ptree.specs.Moving.{MovesBelow, Moves}
use Rattle.sea_ptree.specs.Node.{Entry, IsRising}
use Rattle.sea_ptree.specs.Run.{Update}
use Rattle.sea_ptree.specs.Tree.{NodeAt, link_of, root_link}
use Rattle.sea_ptree.proofs.Checks.{Next}

-- ---- a merge

pub lays_leaf : (old : Held) (level : ℕ) (link : Link) (run : List Update) (es made : List Entry) (m0 m1 : Making) → level ≡ 0 → NodeAt m0.kind old.image level link es → Took m0 m1 link.at → (IsRising es → made ≡ pairs_laid_over run es) → LaysBelow m0.kind old.image run level link m0 m1 made
lays_leaf old level link run es made m0 m1 is node took laid =
    subst (λ (l : ℕ). LaysBelow m0.kind old.image run l link m0 m1 made) (sym is)
    (record { entries = es; node = subst (λ (l : ℕ). NodeAt m0.kind old.image l link es) is node; took = took; made_is = laid node.spells.node.rising })

pub lays_up : (old mid late : Held) (up level : ℕ) (link child : Link) (run : List Update) (es below made : List Entry) (index : ℕ) (e : Entry) (m0 m1 m2 m3 : Making) → suc level ≡ up → Keeps old mid × (mid.faults ≡ old.faults) → Keeps mid late × (late.faults ≡ mid.faults) → child ≡ link_of e.1 → NodeAt m0.kind old.image up link es → Next es index e
    → Towards (first_key run) es index → Took m0 m1 link.at → LaysBelow m1.kind mid.image run level child m1 m2 below → m2.kind ≡ m1.kind → IsSettled m2.kind late.image level es index below m2 m3 made → LaysBelow m0.kind old.image run up link m0 m3 made
lays_up old mid late up level link child run es below made index e m0 m1 m2 m3 is kept kept' leads node next toward took lays same settled =
    let lays' = subst (λ (l : Link). LaysBelow m0.kind old.image run level l m1 m2 below) leads (subst (λ (i : Image). LaysBelow m0.kind i run level child m1 m2 below) kept.0.image (subst (λ (k : Kind). LaysBelow k mid.image run level child m1 m2 below) took.kind lays)) in
    let settled' = subst (λ (i : Image). IsSettled m0.kind i level es index below m2 m3 made) (kept'.0.image ∙ kept.0.image) (subst (λ (k : Kind). IsSettled k late.image level es index below m2 m3 made) (same ∙ took.kind) settled) in
    subst (λ (l : ℕ). LaysBelow m0.kind old.image run l link m0 m3 made) is
    (record {
      entries = es;
      index = index;
      entry = e;
      below = below;
      gone = m1;
      changed = m2;
      node = subst (λ (l : ℕ). NodeAt m0.kind old.image l link es) (sym is) node;
      took = took;
      there = next.rest;
      toward = toward;
      child = lays';
      settled = settled';
    })

pub lays_root : (kind : Kind) (image : Image) (root : PRoot) (link : Link) (place level : ℕ) (run : List Update) (made : List Entry) (r : PRoot) (fresh : Fresh) (m0 m1 m2 : Making) → suc level ≡ root.height → level ≡ root.height - 1 → link ≡ root_link root → Starts kind place m0
    → LaysBelow m0.kind image run level link m0 m1 made → SettlesRoot m1 m2 level made r → IsMade m2 r fresh → Lays kind image root place run fresh
lays_root kind image root link place level run made r fresh m0 m1 m2 is same leads starts lays settled made_is =
    let lays' = subst (λ (l : Link). LaysBelow kind image run level l m0 m1 made) leads (subst (λ (k : Kind). LaysBelow k image run level link m0 m1 made) starts.kind_is lays) in
    record {
      start = m0;
      changed = m1;
      end = m2;
      made = made;
      starts = starts;
      below = subst (λ (h : ℕ). LaysFrom kind image run h (root_link root) m0 m1 made) is lays';
      settled = subst (λ (l : ℕ). SettlesRoot m1 m2 l made fresh.root) same (subst (SettlesRoot m1 m2 level made) (sym made_is.root_is) settled);
      is_made = record { root_is = refl; nodes = made_is.nodes; dead = made_is.dead };
    }

pub lays_none : (kind : Kind) (image : Image) (root : PRoot) (place : ℕ) (run : List Update) (made : List Entry) (r : PRoot) (fresh : Fresh) (m0 m2 : Making) → root.height ≡ 0 → Starts kind place m0
    → made ≡ pairs_laid_over run [] → SettlesRoot m0 m2 0 made r → IsMade m2 r fresh → Lays kind image root place run fresh
lays_none kind image root place run made r fresh m0 m2 is starts laid settled made_is =
    let zero_is : 0 ≡ root.height - 1 = omega (arith, is) in
    record {
      start = m0;
      changed = m0;
      end = m2;
      made = made;
      starts = starts;
      below = subst (λ (h : ℕ). LaysFrom kind image run h (root_link root) m0 m0 made) (sym is) (refl, laid);
      settled = subst (λ (l : ℕ). SettlesRoot m0 m2 l made fresh.root) zero_is (subst (SettlesRoot m0 m2 0 made) (sym made_is.root_is) settled);
      is_made = record { root_is = refl; nodes = made_is.nodes; dead = made_is.dead };
    }

-- ---- a relocation

pub moves_end : (kind : Kind) (image : Image) (key bottom level : ℕ) (link : Link) (m0 m1 : Making) (es : List Entry) → level ≤ bottom → NodeAt kind image level link es → Took m0 m1 link.at → MovesBelow kind image key bottom level link m0 m1 es
moves_end kind image key bottom zero link m0 m1 es le node took = record { node = node; took = took }
moves_end kind image key bottom (suc level) link m0 m1 es le node took = inl (le, record { node = node; took = took })

pub moves_up : (old mid : Held) (key bottom up level : ℕ) (link child : Link) (es below : List Entry) (index : ℕ) (e e' : Entry) (m0 m1 m2 m3 : Making) → suc level ≡ up → bottom < up → Keeps old mid × (mid.faults ≡ old.faults) → child ≡ link_of e.1 → NodeAt m0.kind old.image up link es → Next es index e → Towards key es index
    → Took m0 m1 link.at → MovesBelow m1.kind mid.image key bottom level child m1 m2 below → Wrote m2 m3 level below e' → MovesBelow m0.kind old.image key bottom up link m0 m3 (set es index e')
moves_up old mid key bottom up level link child es below index e e' m0 m1 m2 m3 is above kept leads node next toward took moves wrote =
    let moves' = subst (λ (l : Link). MovesBelow m0.kind old.image key bottom level l m1 m2 below) leads (subst (λ (i : Image). MovesBelow m0.kind i key bottom level child m1 m2 below) kept.0.image (subst (λ (k : Kind). MovesBelow k mid.image key bottom level child m1 m2 below) took.kind moves)) in
    subst (λ (l : ℕ). MovesBelow m0.kind old.image key bottom l link m0 m3 (set es index e')) is
    (inr (
      omega (arith, is, above),
      record {
        entries = es;
        index = index;
        entry = e;
        below = below;
        written = e';
        gone = m1;
        changed = m2;
        node = subst (λ (l : ℕ). NodeAt m0.kind old.image l link es) (sym is) node;
        took = took;
        there = next.rest;
        toward = toward;
        child = moves';
        wrote = wrote;
        made_is = refl;
      },
    ))

pub moves_root : (kind : Kind) (image : Image) (root : PRoot) (link : Link) (key level place : ℕ) (made : List Entry) (e : Entry) (fresh : Fresh) (m0 m1 m2 : Making) → link ≡ root_link root → Starts kind place m0
    → MovesBelow m0.kind image key level (root.height - 1) link m0 m1 made → Wrote m1 m2 (root.height - 1) made e → IsMade m2 (root_of e.1 root.height) fresh → Moves kind image root key level place fresh
moves_root kind image root link key level place made e fresh m0 m1 m2 leads starts moves wrote made_is = record {
  start = m0;
  changed = m1;
  end = m2;
  made = made;
  written = e;
  starts = starts;
  below = subst (λ (l : Link). MovesBelow kind image key level (root.height - 1) l m0 m1 made) leads (subst (λ (k : Kind). MovesBelow k image key level (root.height - 1) link m0 m1 made) starts.kind_is moves);
  wrote = wrote;
  is_made = made_is;
}
