use Rattle.std.proofs.Common.{List, [], ◌++◌, replicate, ap, ap₂, ◌∙◌}
use Rattle.std.proofs.lemmas.List.{take-append-drop}
use Rattle.scheme.specs.Meaning.{prefix}
use Rattle.graph.specs.declared.Call.{Call}
use Rattle.service.specs.Still.{answers_of}
use Rattle.dispatch.proofs.twice.serve_halted.Goals as goal

pub returns-in-Ok : goal.returns-in-Ok
returns-in-Ok c =
    let whole = ap₂ {C = List Call} (λ (xs ys : List Call). xs ++ ys) c.split_at.ensures.front c.split_at.ensures.back ∙ take-append-drop _ c.args.calls.now in
    (c.in-Ok.ensures.as_one_list (replicate 48 9) _ [] c.in_ok-halted.ensures.served).answered ∙ ap (answers_of prefix (replicate 48 9)) whole
