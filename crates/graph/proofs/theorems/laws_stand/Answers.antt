use Rattle.graph.proofs.Laws.{runs-agree, full-collects, numbers-encoded, references-apart, references-read, headers-read, words-tell}
use Rattle.graph.proofs.theorems.laws_stand.Goals as goal

pub returns : goal.returns
returns c =
    record {
      runs = runs-agree;
      full = full-collects;
      numbers = numbers-encoded;
      apart = references-apart;
      references = references-read;
      headers = headers-read;
      words = words-tell;
    }
