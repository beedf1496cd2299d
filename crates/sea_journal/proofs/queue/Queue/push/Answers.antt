use Rattle.std.proofs.Common.{◌≡◌, ◌+◌, ◌-◌, ◌*◌, ℕ, List, [], ◌∷◌, ◌++◌, length, take, drop, replicate, vec_len, arith, sym, ap, ◌∙◌, subst, length-append}
use Rattle.std.proofs.lemmas.List.{append-nil}
use Rattle.sea_record.specs.Record.{BeginsWith, IsRecord, blocks, record_bytes}
use Rattle.sea_record.specs.declared.record.Record.{Record}
use Rattle.sea_record.proofs.Records.{length-own_digest}
use Rattle.sea_record.proofs.Encoding.{written_back}
use Rattle.sea_trail.specs.Trail.{chain_end, trail_link}
use Rattle.sea_trail.proofs.Chains.{chain_end-append, last_link-append}
use Rattle.sea_journal.specs.Resume.{record_behind}
use Rattle.sea_journal.proofs.Queues.{length-record, padded-some, pushed_bytes, pushed_link, queued_at}
use Rattle.sea_journal.proofs.queue.Queue.push.Goals as goal

pub digest_in-requires : goal.digest_in-requires
digest_in-requires c =
    let q = c.args.self.now in
    let r = record_behind q.place.0 q.seq q.link c.args.body c.args.tail c.args.root in
    let size : length c.bytes-2.result.now ≡ 4096 * blocks c.args.body = ap length (c.bytes-2.ensures ∙ c.in_ok-spelled.ensures ∙ ap record_bytes c.next_record-entry.ensures) ∙ length-record r c.requires.is_record in
    omega arith

pub invariant_of-self-2-clause-padded : goal.invariant_of-self-2-clause-padded
invariant_of-self-2-clause-padded c =
    let q = c.args.self.now in
    let r = record_behind q.place.0 q.seq q.link c.args.body c.args.tail c.args.root in
    let spelled : length c.in_ok-spelled.spelled ≡ 4096 * blocks c.args.body = ap length (c.in_ok-spelled.ensures ∙ ap record_bytes c.next_record-entry.ensures) ∙ length-record r c.requires.is_record in
    let size : c.size.result ≡ blocks c.args.body = c.size.ensures ∙ ap (λ (x : Record). blocks x.body) c.next_record-entry.ensures in
    omega (arith, c.in_ok-resize.ensures.len, c.record_bytes-at.ensures, c.len.ensures.value, padded-some (q.place.0 + c.size.result - q.start.0) (omega arith))

pub invariant_of-self-2-clause-linked : goal.invariant_of-self-2-clause-linked
invariant_of-self-2-clause-linked c =
    let q = c.args.self.now in
    let is = c.requires.is_record in
    let e = c.next_record-entry.ensures in
    let begins : BeginsWith c.bytes-2.result.now c.next_record-entry.result = record {
      is_record = subst IsRecord (sym e) c.requires.is_record;
      behind = [];
      spelled = c.bytes-2.ensures ∙ c.in_ok-spelled.ensures ∙ sym (append-nil (record_bytes c.next_record-entry.result));
    } in
    record {
      mount = omega (arith, ap (λ (x : Record). x.mount) e, is.mount.1);
      commit = omega (arith, ap (λ (x : Record). x.commit.0) e, is.commit.1);
      digest = ap length (c.digest_in.ensures c.next_record-entry.result begins) ∙ length-own_digest c.next_record-entry.result;
      tail = is.tail;
      root = is.root;
    }

pub returns-clause-ok : goal.returns-clause-ok
returns-clause-ok c = λ log waits.
    let q = c.args.self.now in
    let r = record_behind q.place.0 q.seq q.link c.args.body c.args.tail c.args.root in
    let e : c.next_record-entry.result ≡ r = c.next_record-entry.ensures in
    let spelled = c.in_ok-spelled.ensures ∙ ap record_bytes e in
    let begins : BeginsWith c.bytes-2.result.now c.next_record-entry.result = record {
      is_record = subst IsRecord (sym e) c.requires.is_record;
      behind = [];
      spelled = c.bytes-2.ensures ∙ c.in_ok-spelled.ensures ∙ sym (append-nil (record_bytes c.next_record-entry.result));
    } in
    let at = c.record_bytes-at.result in
    let whole : c.resize.new.self.len ≡ length c.resize.new.self.items = c.resize.new.self.ok.0 in
    let over : c.put_bytes.new.bytes ≡ take at c.resize.new.self.items ++ record_bytes r ++ drop (at + length (record_bytes r)) c.resize.new.self.items =
    c.put_bytes.ensures ∙ ap (λ (x : List ℕ). take at x ++ c.bytes.result.now ++ drop (at + length c.bytes.result.now) x) c.deref_mut.ensures.value
    ∙ ap (λ (b : List ℕ). take at c.resize.new.self.items ++ b ++ drop (at + length b) c.resize.new.self.items) (c.bytes.ensures ∙ spelled) in
    let kept : length c.put_bytes.new.bytes ≡ length c.resize.new.self.items = c.put_bytes.auto.bytes ∙ ap length c.deref_mut.ensures.value in
    let len = at + c.len.result + 4096 in
    let len_is : len ≡ at + length (record_bytes r) + 4096 = ap (λ n. at + n + 4096) (c.len.ensures.value ∙ ap length spelled) in
    let count : q.bytes.len ≡ length q.bytes.items = q.bytes.ok.0 in
    let put = pushed_bytes log.queued r q.bytes.items c.resize.new.self.items c.put_bytes.new.bytes at len waits.bytes
    (c.record_bytes-at.ensures ∙ queued_at log.queued (q.place.0 - q.start.0) (vec_len q.bytes) q.padded (count ∙ ap length waits.bytes))
    len_is (c.in_ok-resize.ensures.items ∙ ap (λ n. take len q.bytes.items ++ replicate (len - n) 0) count) over in
    record {
      active = waits.active;
      seq = waits.seq;
      start = waits.start;
      place = ap (λ n. n + c.size.result) waits.place ∙ ap (λ n. chain_end log.trail.end.0 log.queued + n) (c.size.ensures ∙ ap (λ (x : Record). blocks x.body) e) ∙ sym (chain_end-append log.trail.end.0 log.queued (r ∷ []));
      link = pushed_link c.next_record-entry.result r c.digest_in.result e (c.digest_in.ensures c.next_record-entry.result begins) ∙ sym (last_link-append (trail_link log.trail) log.queued (r ∷ []));
      bytes = written_back c.put_bytes.new.bytes c.resize.new.self.items c.resize.new.self.len whole kept ∙ put;
      count = ap (λ n. n + 1) waits.count ∙ sym (length-append log.queued (r ∷ []));
    }
