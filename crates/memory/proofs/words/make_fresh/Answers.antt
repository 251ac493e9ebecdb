use Rattle.std.proofs.Common.{◌≡◌, ℕ, ◌-◌, ◌<◌, ◌≤◌, List, ◌++◌, length, get_or, set, take, drop, ◌∙◌, arith, length-set, length-take-le}
use Rattle.std.proofs.lemmas.List.{get_or-take, get_or_append_left, get_or-set_same, get_or-set_other}
use Rattle.memory.proofs.words.make_fresh.Goals as goal

-- the first two words stay, whatever is behind them
front : (xs ys : List ℕ) (k : ℕ) → 2 ≤ length xs → k < 2 → get_or (take 2 xs ++ ys) k 0 ≡ get_or xs k 0
front xs ys k h l = get_or_append_left (take 2 xs) ys 0 k (omega (arith, length-take-le 2 xs h)) ∙ get_or-take 2 xs k 0 l

pub returns-clause-first : goal.returns-clause-first
returns-clause-first c =
    let ws = c.args.words.now in
    let xs = set (set ws 0 c.args.first) 1 c.args.second in
    let one = length-set ws 0 c.args.first in
    let two = length-set (set ws 0 c.args.first) 1 c.args.second in
    front xs (c.zero.new.words ++ drop (length xs - 2) (drop 2 xs)) 0 (omega (arith, one, two)) (omega arith)
    ∙ get_or-set_other (set ws 0 c.args.first) 1 0 c.args.second 0 (omega arith)
    ∙ get_or-set_same ws 0 c.args.first 0 (omega arith)

pub returns-clause-second : goal.returns-clause-second
returns-clause-second c =
    let ws = c.args.words.now in
    let xs = set (set ws 0 c.args.first) 1 c.args.second in
    let one = length-set ws 0 c.args.first in
    let two = length-set (set ws 0 c.args.first) 1 c.args.second in
    front xs (c.zero.new.words ++ drop (length xs - 2) (drop 2 xs)) 1 (omega (arith, one, two)) (omega arith) ∙ get_or-set_same (set ws 0 c.args.first) 1 c.args.second 0 (omega (arith, one))
