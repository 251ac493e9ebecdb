use Rattle.std.proofs.Common.{◌≡◌, ◌≤◌, length, take, vec_items, vec_len, vec_capacity}
use Rattle.heap.specs.Views.{view}
use Rattle.service.specs.Still.{ServedAs}
use Rattle.service.proofs.serve_watched.Given as goal

abbrev pub invariant-loop-index : goal.invariant-loop-index
invariant-loop-index g l =
    record {
      served : ServedAs (g.S.Scheme.meaning l.fn.scheme) (g.M.Memory.words l.fn.memory) (take l.index l.calls) (vec_items l.served.answers) (view g.M.Memory.words l.served.heap);
      scheme : l.served.heap.scheme ≡ l.fn.scheme;
      count : vec_len l.served.answers ≡ l.index;
      room_is : length l.calls ≤ vec_capacity l.served.answers;
    }
