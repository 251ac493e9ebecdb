-- The plan that keeps all that stands describes the standing objects of a heap.
use Rattle.std.proofs.Common.{◌≡◌, ℕ, ◌+◌, ◌-◌, ◌≤◌, Bool, true, false, not, List, length, get_or, sym, refl, subst, add-zero, arith}
use Rattle.std.proofs.lemmas.Bool.{and_parts}
use Rattle.scheme.specs.Meaning.{Meaning}
use Rattle.graph.specs.Graph.{Graph, object_at, size, is_record}
use Rattle.graph.specs.Words.{place_of, low_end, high_end}
use Rattle.graph.specs.Sound.{Sound}
use Rattle.space.specs.Pass.{Plan, Here}
use Rattle.graph.specs.Places.{records, turn_of}
use Rattle.space.specs.Layout.{Keeps, plan}
use Rattle.graph.proofs.Places.{turn-bounds}
use Rattle.graph.proofs.Frame.{total-sides}
use Rattle.space.proofs.Plans.{ends, head-of, here-at, planned, plan-handles}
use Rattle.space.proofs.Courses.{records-course, classes-course}
use Rattle.space.specs.Standing.{Standing, Sides}

pub keeps-all : (m : Meaning) (W : ℕ) (g : Graph) (s : List Bool) → Sound m W g s → W ≤ 16384 → Keeps m W g s s
keeps-all m W g s so lim = record { sound = so; limit = lim; as_long = so.as_long; stand = λ q e. e; held_kept = so.held_stands; named_kept = so.named_stands }

module _ (m : Meaning) (W : ℕ) (g : Graph) (s : List Bool) (snd : Sound m W g s) (lim : W ≤ 16384) (rest : List ℕ) where
  abbrev P : Plan
  P = plan W g s s rest

  abbrev kp : Keeps m W g s s
  kp = keeps-all m W g s snd lim

  pub standing : Standing m P W
  standing =
      record {
        planned = planned m W g s s kp rest;
        handles = plan-handles m W g s s kp rest;
        small = lim;
        holds = omega arith;
        object = λ p h.
            let x = head-of m W g s s kp rest p h in
            let q = x.0 in
            let b = turn-bounds W g s snd.fits snd.as_long q x.2 in
            let number : turn_of W g s q ≡ turn_of W g s q - 1 + 1 = omega (arith, b.0) in
            record {
              size = size (object_at g q);
              new = place_of W g s q;
              number = turn_of W g s q - 1;
              here =
                  subst (λ (a : ℕ). Here m P true (size (object_at g q)) (place_of W g s q) a (turn_of W g s q - 1)) (sym x.3)
                  (subst (λ (b : Bool). Here m P b (size (object_at g q)) (place_of W g s q) (place_of W g s q) (turn_of W g s q - 1)) x.2 (here-at m W g s s kp rest q (turn_of W g s q - 1) x.2 number));
              ends = omega (arith, x.3, ends m W g s s kp rest q x.2);
            };
      }

  pub sides : (low high : ℕ) → low ≡ low_end g s → high ≡ high_end W g s → Sides m P W low high
  sides low high l h =
      record {
        records = records-course m W g s s kp rest;
        classes = classes-course m W g s s kp rest;
        records_from = refl;
        records_end = l;
        records_fit = (let sides = total-sides g s (length g.objects) in let fit = snd.fits in omega arith);
        records_first = refl;
        records_all = λ j e. (and_parts (get_or s j false) (is_record (object_at g j)) e).0;
        classes_from = omega arith;
        classes_end = h;
        classes_first = add-zero (records W g s (length g.objects));
        classes_last = refl;
        classes_all = λ j e. (and_parts (get_or s j false) (not (is_record (object_at g j))) e).0;
      }
