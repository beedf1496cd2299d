-- What images have of an engine's past.
use Rattle.std.proofs.Common.{◌≡◌, ℕ, ◌≤◌, List, [], ◌∷◌, ◌++◌, length, take, refl, sym, ap, ◌∙◌, subst, arith}
use Rattle.std.specs.FinMap as map
use Rattle.std.proofs.lemmas.List.{append-nil}
use Rattle.std.proofs.lemmas.List.Elements.{All-take}
use Rattle.sea_device.specs.declared.device.Device.{Ghosts as Devices}
use Rattle.sea_journal.specs.Log.{Log, HasPrefix, IsClear, up_to_header, up_to_record}
use Rattle.sea_journal.proofs.Openings.{clear_has_prefix}
use Rattle.sea_object.specs.Objects.{ObjectMap}
use Rattle.sea_record.specs.declared.record.Record.{Record}
use Rattle.sea_trail.specs.Trail.{IsTrail}
use Rattle.sea_trail.specs.declared.trail.Trail.{Trail}
use Rattle.sea_transactions.specs.declared.transactions.Transactions.{Ghosts}
use Rattle.sea_engine.specs.Engine.{HasPast, OpensToPrefix, turns_of}
use Rattle.sea_engine.specs.Opens.{Makes}
use Rattle.sea_engine.specs.declared.engine.Engine.{Engine}

take_zero : (rs : List Record) → take 0 rs ≡ []
take_zero [] = refl
take_zero (r ∷ rs) = refl

module _ {D T : Type 0} (d : Devices D) (t : Ghosts T) (engine : Engine D T d) (found : ObjectMap) (log : Log) (has : HasPast t found log engine) where
  -- an image with a trail of these records
  opens_at : (image : List ℕ) (k : ℕ) (u : Trail) → k ≤ length log.queued → IsTrail image u → log.trail.records ++ take k log.queued ≡ u.records → OpensToPrefix t.lays (turns_of t engine) found image
  opens_at image k u within is same =
      let p = has.prefixes k within in
      record {
        count = p.count;
        acknowledged = p.acknowledged;
        within = p.within;
        objects = p.objects;
        opens = record { trail = u; is_trail = is; made = subst (λ (rs : List Record). Makes t.lays rs map.empty p.objects) same p.made };
        legal = p.legal;
      }

  none_behind : log.trail.records ++ take 0 log.queued ≡ log.trail.records
  none_behind = ap (λ (rs : List Record). log.trail.records ++ rs) (take_zero log.queued) ∙ append-nil log.trail.records

  opens_by : (image : List ℕ) → HasPrefix log image → OpensToPrefix t.lays (turns_of t engine) found image
  opens_by image (up_to_record up) =
      let e = up.extends in
      let gone : e.gone ≡ [] = e.none (All-take (λ r. r.tail ≡ log.trail.tail) up.count log.queued has.tails) in
      opens_at image up.count up.trail up.within up.is_trail (e.records ∙ ap (λ (rs : List Record). rs ++ up.trail.records) gone)
  opens_by image (up_to_header h up) =
      opens_at image 0 up.trail (omega arith) up.is_trail (none_behind ∙ sym up.opens.records)

  pub clear_opens : (image : List ℕ) → d.may_leave engine.journal.device image → IsClear log image → OpensToPrefix t.lays (turns_of t engine) found image
  clear_opens image left clear =
      opens_by image (clear_has_prefix log image has.has_log.is_log (has.has_log.images image left) clear)

  pub anchor_opens : OpensToPrefix t.lays (turns_of t engine) found log.anchor
  anchor_opens = opens_at log.anchor 0 log.trail (omega arith) has.has_log.is_log.trail none_behind
