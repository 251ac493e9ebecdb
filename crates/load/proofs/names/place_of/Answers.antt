use Rattle.std.proofs.Common.{◌≡◌, rules, tests, ap, ◌∙◌}
use Rattle.std.specs.List.{position}
use Rattle.std.specs.Option.{ok_or}
use Rattle.std.proofs.lemmas.Iterator.{YieldsList-from_slice}
use Rattle.std.proofs.lemmas.Iterator.Search.{position_from_yields_List}
use Rattle.faults.specs.declared.TextFault.TheVariants.{NoNames}
use Rattle.lexer.specs.Tokens.{said}
use Rattle.load.specs.Names.{is_word}
use Rattle.load.proofs.Titles.{placed}
use Rattle.load.proofs.names.place_of.Goals as goal

pub returns : goal.returns
returns c =
    let found : c.position.result ≡ position (λ t. is_word c.args.name.now (said t)) c.args.tokens.values
    = position_from_yields_List (λ t. is_word c.args.name.now (said t)) _ _ c.position.result c.position.ensures.ran (YieldsList-from_slice c.args.tokens.values cc) (λ x b q k. search (rules, tests))
    in
    c.ok_or.ensures.value ∙ ap (λ o. ok_or o NoNames) (found ∙ placed c.args.name.now c.args.tokens.values)
