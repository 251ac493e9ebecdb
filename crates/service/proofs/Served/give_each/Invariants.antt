use Rattle.std.proofs.Common.{◌≡◌, ◌+◌, take, vec_items, vec_len, vec_capacity}
use Rattle.heap.specs.Views.{view}
use Rattle.service.specs.Course.{Continues}
use Rattle.service.proofs.Served.give_each.Given as goal

abbrev pub invariant-loop-call : goal.invariant-loop-call
invariant-loop-call g l =
    let first = l.initial.served in
    record {
      on : Continues (g.S.Scheme.meaning first.heap.scheme) (view g.M.Memory.words first.heap) (vec_items first.answers) (take l.call-index l.calls) (vec_items l.served.answers) (view g.M.Memory.words l.served.heap);
      scheme : l.served.heap.scheme ≡ first.heap.scheme;
      count : vec_len l.served.answers ≡ vec_len first.answers + l.call-index;
      room_is : vec_capacity l.served.answers ≡ vec_capacity first.answers;
    }
