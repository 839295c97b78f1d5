-- The enumeration over the list of stations is the one by the positions in the table. For any `look` and any table of
-- separations. Assumes nothing.
use mathlib.Core.Path.{◌≡◌, refl, sym, ap, ◌∙◌}
use mathlib.Core.Bool.{Bool, true, false, cond, not, ◌&&◌}
use mathlib.Core.List.{List, [], ◌∷◌, map}
use Prim.Native.Nat.{ℕ, suc, ◌-◌, ◌<◌}
use native.Mathlib.Omega.{arith}
use Rattle.ground.specs.Lists.{every, keep, each}
use Rattle.ground.specs.Rows.{row}
use Rattle.part73.specs.Channels.{new_channels}
use Rattle.ground.proofs.Spans.{each_cong, keep_none}
use Rattle.ground.proofs.Keeps.{keep_cong}
use Rattle.spacing.specs.Pair.{Assignment}
use Rattle.stations.specs.Image.{station_at, stations, count, Accepted}
use Rattle.stations.specs.Lists.{without, onto}
use Rattle.stations.specs.declared.Station.{Station}
use Rattle.survey.specs.Ways.{near, on_channel, clear}
use Rattle.survey.proofs.Studied.{clear_at, but_at, each_at}
use Rattle.planning.specs.Scene.{Scene, scene, new_but, moved_but, allowed as allowed'}
use Rattle.arrangements.specs.Arrange.{allowed, moves_of, arranged, arrangements}
use Rattle.arrangements.specs.Placed.{clear as clear', moves_of as moves_of', moves as moves', arranged as arranged', arrangements as arrangements'}

-- to nobody, of one station and others
pub clear_cons : (km : ℕ → ℕ → ℕ → ℕ) (p : Assignment) (x : Station) (ss : List Station) → clear km p (x ∷ ss) ≡ (not (near km p x) && clear km p ss)
unfolding clear every
clear_cons km p x ss = refl

and_swap : (a b : Bool) → (a && b) ≡ (b && a)
and_swap true true = refl
and_swap true false = refl
and_swap false true = refl
and_swap false false = refl

module _ (km : ℕ → ℕ → ℕ → ℕ) (look : Station → Bool) (s : List ℕ) (e : Accepted s) (new : ℕ → Assignment) where
  abbrev t : Scene
  t = scene km look s new

  abbrev n : ℕ
  n = count s

  abbrev ss : List Station
  ss = keep look (stations s)

  allowed_at : (c i m : ℕ) → i < n → look (station_at s i) ≡ true → allowed km (new c) ss (station_at s i) m ≡ allowed' t c i m
  unfolding allowed allowed' new_but moved_but scene
  allowed_at c i m h l =
      let r = station_at s i in
      rw (l, clear_cons km (new c) (onto m r) (without r.id ss), and_swap (not (near km (new c) (onto m r))) (clear km (new c) (without r.id ss)), but_at s n e look km (on_channel m r) i h, but_at s n e look km (new c) i h)

  -- one that is not looked at does not move
  unseen : (c i m : ℕ) → look (station_at s i) ≡ false → allowed' t c i m ≡ false
  unfolding allowed' scene
  unseen c i m l = rw l

  moves_at : (c : ℕ) → each (moves_of km new ss c) ss ≡ moves' t c
  unfolding moves' moves_of moves_of' scene
  moves_at c = each_at s n e look (moves_of km new ss c) ∙ each_cong _ _ n 0 (λ i lo hi. go i (omega arith) (look (station_at s i)) refl)
    where
      go : (i : ℕ) → i < n → (b : Bool) → look (station_at s i) ≡ b → cond b (map (λ m. row c (station_at s i).id m) (keep (allowed km (new c) ss (station_at s i)) new_channels)) [] ≡ map (λ m. row c (station_at s i).id m) (keep (allowed' t c i) new_channels)
      go i h true l = ap (map (λ m. row c (station_at s i).id m)) (keep_cong _ _ new_channels (λ m k. allowed_at c i m h l))
      go i h false l = sym (ap (map (λ m. row c (station_at s i).id m)) (keep_none (allowed' t c i) new_channels (λ m. unseen c i m l)))

  pub arranged_at : (c : ℕ) → arranged km new ss c ≡ arranged' t c
  unfolding arranged arranged' clear' scene
  arranged_at c = rw (clear_at s n e look km (new c), moves_at c)

  pub arrangements_at : (first last : ℕ) → arrangements km new ss first last ≡ arrangements' t first last
  unfolding arrangements arrangements'
  arrangements_at first last = each_cong _ _ (suc last - first) first (λ c lo hi. arranged_at c)
