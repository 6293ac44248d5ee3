use Rattle.std.proofs.Common.{◌≡◌, ℕ}
use Rattle.inspection.specs.Searches.{Snapshot, after, begun}
use Rattle.inspection.proofs.Completion.{openings_left}
use Rattle.checker.proofs.inspect.Given as goal

-- some number of openings led here from the begin
abbrev pub invariant-loop-inspection : goal.invariant-loop-inspection
invariant-loop-inspection g l =
    (n : ℕ)
    × (◌≡◌ {A = Snapshot} (record { progress = l.inspection.progress; table = l.cells }) (after (g.M.Machine.graph l.machine) (g.W.Watcher.automaton l.watcher) n (begun (g.M.Machine.graph l.machine) (g.W.Watcher.automaton l.watcher) l.fn.cells)))

abbrev pub decreases-loop-inspection : goal.decreases-loop-inspection
decreases-loop-inspection g l = openings_left l.inspection.progress
