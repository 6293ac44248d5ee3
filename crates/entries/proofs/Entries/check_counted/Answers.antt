use Rattle.std.proofs.Common.{◌≡◌, ◌+◌, ◌*◌, ◌<◌, [], length, get_or, replicate, sym, refl, ap, ◌∙◌, arith, length-set}
use lib.ListN.{length-replicate}
use Rattle.std.proofs.lemmas.Grind.{common_steps}
use Rattle.std.proofs.lemmas.Result.{err_from_is_err_and}
use Rattle.std.proofs.lemmas.List.{length_push}
use Rattle.entries.specs.Entries.{entry_count, entry_list}
use Rattle.entries.specs.Faults.{entries_fault}
use Rattle.entries.specs.Keys.{key_at}
use Rattle.entries.proofs.Keyed.{no_counts, zeros, counts_more}
use Rattle.entries.proofs.Listed.{count_few, faults_all, fault_here, fault_later, key_counted, key_is}
use Rattle.entries.proofs.Turns.{turn, turn_is, all}
use Rattle.entries.proofs.Entries.check_counted.Goals as goal

pub loop-i-init : goal.loop-i-init
loop-i-init g c =
    let b = c.args.self.bytes.now in
    let base = c.args.self.base in
    let at : base + 0 ≡ base = omega arith in
    record {
      so_far = refl;
      few = omega arith;
      first = ap (entries_fault g.K.Key.key c.args.size [] (entry_list b base)) at;
      long = length-replicate g.row.N 0;
      counted = λ s h. no_counts (key_at g.K.Key.key b base) (replicate g.row.N 0) (zeros g.row.N) s;
    }

pub shared_whole_as_slice-get : goal.shared_whole_as_slice-get
shared_whole_as_slice-get g c = omega (arith, c.requires.few)

pub returns-in_err-check_entry : goal.returns-in_err-check_entry
returns-in_err-check_entry g c =
    let b = c.args.self.bytes.now in
    let base = c.args.self.base in
    let size = c.args.size in
    let i = c.loop-i.i in
    let t = turn b base c.iter-entry-items.result c.iter-entry-items.ensures c.loop-i.yielded c.loop-i.entry-iterator c.loop-i.yielded_by _ c.next.new.self c.in-Some.entry c.in-Some.is c.next.ensures.steps in
    let there : i < entry_count b base = omega (arith, t.there, c.loop-i.invariant.so_far) in
    let is = turn_is b base i c.loop-i.yielded c.in-Some.entry c.loop-i.invariant.so_far t in
    let seen-is : c.unwrap_or-seen.result ≡ get_or c.loop-i.counts c.of-key.result 0 = grind (arith, common_steps) in
    let at-is : c.from.result + 5 * i ≡ base + 5 * i = omega (arith, c.from.ensures) in
    let p = err_from_is_err_and c.from_residual.result c.from_residual.ensures.1 in
    rw (p.1, p.2) (fault_here g.K.Key.key b base size i g.row.N c.loop-i.counts c.requires.keys c.loop-i.invariant.counted there c.in-Some.entry c.of-key.result c.unwrap_or-seen.result _ is c.of-key.ensures seen-is at-is c.in_err-check_entry.field-0.0 c.in_err-check_entry.ensures ∙ c.loop-i.invariant.first)

pub loop-i-preserved : goal.loop-i-preserved
loop-i-preserved g c =
    let b = c.args.self.bytes.now in
    let base = c.args.self.base in
    let size = c.args.size in
    let i = c.loop-i.i in
    let t = turn b base c.iter-entry-items.result c.iter-entry-items.ensures c.loop-i.yielded c.loop-i.entry-iterator c.loop-i.yielded_by _ c.next.new.self c.in-Some.entry c.in-Some.is c.next.ensures.steps in
    let there : i < entry_count b base = omega (arith, t.there, c.loop-i.invariant.so_far) in
    let is = turn_is b base i c.loop-i.yielded c.in-Some.entry c.loop-i.invariant.so_far t in
    let seen-is : c.unwrap_or-seen.result ≡ get_or c.loop-i.counts c.of-key.result 0 = grind (arith, common_steps) in
    let at-is : c.from.result + 5 * i ≡ base + 5 * i = omega (arith, c.from.ensures) in
    let none = c.in_ok-check_entry.ensures in
    let low = key_counted g.K.Key.key b base size i g.row.N c.loop-i.counts c.requires.keys c.loop-i.invariant.counted there c.in-Some.entry c.of-key.result c.unwrap_or-seen.result _ is c.of-key.ensures seen-is at-is none in
    record {
      so_far = omega (arith, c.loop-i.invariant.so_far, length_push c.loop-i.yielded c.in-Some.entry);
      few = omega (arith, there, count_few b base);
      first = fault_later g.K.Key.key b base size i g.row.N c.loop-i.counts c.requires.keys c.loop-i.invariant.counted there c.in-Some.entry c.of-key.result c.unwrap_or-seen.result _ is c.of-key.ensures seen-is at-is none ∙ c.loop-i.invariant.first;
      long = length-set _ _ _ ∙ c.loop-i.invariant.long;
      counted = counts_more (key_at g.K.Key.key b base) i c.of-key.result g.row.N c.loop-i.counts (key_is g.K.Key.key b base i c.of-key.result c.in-Some.entry is c.of-key.ensures) low c.loop-i.invariant.long c.loop-i.invariant.counted;
    }

pub returns : goal.returns
returns g c =
    let b = c.args.self.bytes.now in
    let base = c.args.self.base in
    let last : length c.loop-i.yielded ≡ entry_count b base = all b base c.iter-entry-items.result c.iter-entry-items.ensures c.loop-i.yielded c.loop-i.entry-iterator c.loop-i.yielded_by _ c.next.new.self c.in-None.is c.next.ensures.steps in
    sym (faults_all g.K.Key.key b base c.args.size c.loop-i.i (omega (arith, last, c.loop-i.invariant.so_far))) ∙ c.loop-i.invariant.first
