use Rattle.std.proofs.Common.{◌≡◌, ℕ, refl, ap, inl, inr, arith}
use Rattle.std.proofs.lemmas.Bool.{cases_lt}
use Rattle.sea_base.specs.declared.place.Paddr.{Paddr}
use Rattle.sea_journal.proofs.Journals.{OnErr-one, OnOk-both, OnErr-ok, OnOk-always, idle_synced, keeps_at_crash, keeps_idle, steady_some, still_has, written_synced}
use Rattle.sea_journal.proofs.journal.Journal.sync.Goals as goal

place : ℕ → Paddr
place n = record { 0 = n }

pub returns-clause-ok : goal.returns-clause-ok
unfolding place
returns-clause-ok g c = λ log has.
    let q = c.args.self.now.queue in
    elim (cases_lt q.start.0 q.place.0) [
      | inl some ↦ OnOk-both c.write.result (λ written emptied. written_synced log c.args.self.now _ has refl refl written emptied some c.write.ensures.changes c.args.self.now.room g.met.D.Device.whole)
          (c.write.ensures.written some) c.write.ensures.emptied
      | inr none ↦
          let order = q.order in
          let same : q.place.0 ≡ q.start.0 = omega arith in
          let idle = c.write.ensures.idle (ap place same) in
          OnOk-always c.write.result (idle_synced log c.args.self.now _ has idle.1 idle.2 refl refl same)
    ]

pub returns-clause-err : goal.returns-clause-err
unfolding place
returns-clause-err g c = λ log has.
    let q = c.args.self.now.queue in
    elim (cases_lt q.start.0 q.place.0) [
      | inl some ↦ OnErr-one c.write.result (λ same. still_has log c.args.self.now _ has same refl refl some c.write.ensures.changes) c.write.ensures.err
      | inr none ↦
          let order = q.order in
          let same : q.place.0 ≡ q.start.0 = omega arith in
          let idle = c.write.ensures.idle (ap place same) in
          OnErr-ok _ c.write.result idle.0
    ]

pub returns-clause-crash : goal.returns-clause-crash
unfolding place
returns-clause-crash g c = λ log has.
    let q = c.args.self.now.queue in
    elim (cases_lt q.start.0 q.place.0) [
      | inl some ↦ keeps_at_crash log c.args.self.now c.write.new.device has (steady_some log c.args.self.now has some) (g.met.D.Device.only_now c.args.self.now.device) c.write.ensures.changes
      | inr none ↦
          let order = q.order in
          let same : q.place.0 ≡ q.start.0 = omega arith in
          let idle = c.write.ensures.idle (ap place same) in
          keeps_idle log c.args.self.now c.write.new.device has (g.met.D.Device.only_now c.args.self.now.device) idle.2
    ]
