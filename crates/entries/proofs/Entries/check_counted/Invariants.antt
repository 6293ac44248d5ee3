use Rattle.std.proofs.Common.{◌≡◌, ℕ, ◌+◌, ◌*◌, ◌<◌, ◌≤◌, length, get_or, take, drop}
use Rattle.entries.specs.Entries.{entry_list}
use Rattle.entries.specs.Faults.{entries_fault, first_entry_fault}
use Rattle.entries.specs.Keys.{keyed, key_at}
use Rattle.entries.proofs.Entries.check_counted.Given as goal

-- at most 4,000 have come, the first fault from entry i on is the first of all, and the entries before i are counted
abbrev pub invariant-loop-i : goal.invariant-loop-i
invariant-loop-i g l = record {
  so_far : l.i ≡ length l.yielded;
  few : l.i ≤ 4000;
  first : entries_fault g.K.Key.key l.size (take l.i (entry_list l.self.bytes.now l.self.base)) (drop l.i (entry_list l.self.bytes.now l.self.base)) (l.self.base + 5 * l.i) ≡ first_entry_fault g.K.Key.key l.size l.self.bytes.now l.self.base;
  long : length l.counts ≡ g.row.N;
  counted : (s : ℕ) → s < g.row.N → get_or l.counts s 0 ≡ length (keyed (key_at g.K.Key.key l.self.bytes.now l.self.base) s l.i);
}
