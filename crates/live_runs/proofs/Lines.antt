-- The lines of a live run, as far as they were heard.
use Rattle.std.proofs.Common.{◌≡◌, ◌+◌, ℕ, suc, Bool, true, false, inl, inr, List, [], ◌∷◌, length, Some, refl, sym, ap, subst, ◌∙◌, arith}
use Rattle.txn_bytes.specs.Written.{Writer}
use Rattle.line_language.specs.declared.fault.LineKind.TheVariants as kind
use Rattle.durable_top.specs.declared.store.TopStore.{Ghosts}
use Rattle.interleavings.specs.Scheduled.{LetsGo}
use Rattle.interleavings.specs.Turning.{Turning}
use Rattle.txn_bytes.specs.Sources.{Reader}
use Rattle.request_lines.specs.declared.lines.Taken.TheVariants.{Whole, Long}
use Rattle.request_lines.specs.Taking.{Holds, Takes}
use Rattle.program_words.specs.Faults.{IsSaid, spelled_fault}
use Rattle.program_words.specs.declared.fault.Fault.TheVariants.{Line}
use Rattle.live_runs.specs.declared.fault.LiveFault.{LiveFault}
use Rattle.live_runs.specs.declared.fault.LiveFault.TheVariants.{Open, Read, NoMemory, Write}
use Rattle.live_runs.specs.Hearing.{Answers, BreaksHearing, EndsAt, HasAnswerFault, HasHearingFault, Heard, Hears, HearsAll, HearsNext, HearsOne, HearsSome, Moment, holds_nothing, moment}

module _ {R S W E : Type 0} (r : Reader R) (g : Ghosts S) (w : Writer W) (e : Writer E) where
  -- ---- one line

  pub hears_whole : (n : ℕ) (old new : Moment R S W E) (bytes : List ℕ)
      → Takes r old.reader new.reader old.holds new.holds Whole → bytes ≡ new.holds.kept
      → Answers g w e n bytes old.live new.live old.out new.out old.err new.err
      → HearsSome r g w e n old new
  hears_whole n old new bytes taken same a = record {
    line = record { bytes = bytes; fault = a.fault };
    heard = record {
      taken = Whole;
      takes = taken;
      bytes = same;
      becomes = a.handled;
      told = a.told;
      shown = a.shown;
    };
  }

  pub hears_long : (n : ℕ) (old new : Moment R S W E) → Takes r old.reader new.reader old.holds new.holds Long → new.live ≡ old.live → new.out ≡ old.out
      → IsSaid e old.err new.err (spelled_fault (Line n kind.Long)) → HearsSome r g w e n old new
  hears_long n old new taken live out said = record {
    line = record { bytes = new.holds.kept; fault = Some kind.Long };
    heard = record { taken = Long; takes = taken; bytes = refl; becomes = (refl, live); told = said; shown = out };
  }

  unheard_line : (old : Moment R S W E) (reader : R) (holds : Holds) (out : W) (left : S) (fault : LiveFault)
      → Takes r old.reader reader old.holds holds Whole
      → HasAnswerFault g w holds.kept old.live old.out out left fault
      → HasHearingFault r g w e old reader out left fault
  unheard_line old reader holds out left (Open cause) taken why = why
  unheard_line old reader holds out left Read taken why = absurd why
  unheard_line old reader holds out left NoMemory taken why =
      record { holds = holds; whole = taken; cause = why }
  unheard_line old reader holds out left Write taken why =
      record { holds = holds; whole = taken; cause = why }

  pub unheard : (old : Moment R S W E) (reader : R) (holds : Holds) (out : W) (left : S) (fault : LiveFault)
      (bytes : List ℕ) → Takes r old.reader reader old.holds holds Whole → bytes ≡ holds.kept
      → HasAnswerFault g w bytes old.live old.out out left fault
      → HasHearingFault r g w e old reader out left fault
  unheard old reader holds out left fault bytes taken same why =
      unheard_line old reader holds out left fault taken
      (subst (λ bs. HasAnswerFault g w bs old.live old.out out left fault) same why)

  -- ---- line after line

  -- all before this one were heard
  pub record HearsSoFar (first : Moment R S W E) (line : ℕ) (now : Moment R S W E) : Type 0 where
    pub list : List Heard
    pub count : suc (length list) ≡ line
    pub hears : Hears r g w e first list now

  pub hears_none : (reader : R) (holds : Holds) (live : Turning S) (out : W) (err : E) → holds.held ≡ [] → holds.kept ≡ []
      → HearsSoFar (moment reader holds_nothing live out err) 1 (moment reader holds live out err)
  hears_none reader holds live out err held kept = record { list = []; count = refl; hears = ap (λ h. moment reader h live out err) (nothing held kept) }
    where
      nothing : holds.held ≡ [] → holds.kept ≡ [] → holds ≡ holds_nothing
      nothing h k = ap (λ x. record { held = x; kept = holds.kept }) h ∙ ap (λ x. record { held = []; kept = x }) k

  pub hears_more : (first now next : Moment R S W E) (line : ℕ) (more : Bool) → HearsSoFar first line now → more ≡ true
      → HearsNext r g w e line now next more → HearsSoFar first (line + 1) next
  hears_more first now next line false so_far is one = absurd (cc)
  hears_more first now next line true so_far is one = record {
    list = one.line ∷ so_far.list;
    count = omega (arith, so_far.count);
    hears = (
      now,
      so_far.hears,
      subst (λ n. HearsOne r g w e n now one.line next) (sym so_far.count) one.heard,
    );
  }

  pub hears_all : (first now : Moment R S W E) (line : ℕ) (more : Bool) (reader : R) (holds : Holds) (live : Turning S) (out : W) (err : E) → HearsSoFar first line now → more ≡ false
      → HearsNext r g w e line now (moment reader holds live out err) more
      → HearsAll r g w e first reader live out err
  hears_all first now line true reader holds live out err so_far is one = absurd (cc)
  hears_all first now line false reader holds live out err so_far is one = record {
    list = so_far.list;
    last = now;
    hears = so_far.hears;
    holds = holds;
    ends = subst (λ n. EndsAt r g w e n now (moment reader holds live out err)) (sym so_far.count) one;
  }

  pub breaks_at : (first now : Moment R S W E) (line : ℕ) (reader : R) (out : W) (err : E) (left : S) (fault : LiveFault) → HearsSoFar first line now → err ≡ now.err
      → HasHearingFault r g w e now reader out left fault
      → BreaksHearing r g w e first reader out err left fault
  breaks_at first now line reader out err left fault so_far untold cause = record { list = so_far.list; last = now; hears = so_far.hears; untold = untold; cause = inl cause }

  pub breaks_off : (first now : Moment R S W E) (line : ℕ) (left : S) (fault : LiveFault) → HearsSoFar first line now → line ≡ 18446744073709551615 → fault ≡ Read → LetsGo g now.live left
      → BreaksHearing r g w e first now.reader now.out now.err left fault
  breaks_off first now line left fault so_far last read go = record {
    list = so_far.list;
    last = now;
    hears = so_far.hears;
    untold = refl;
    cause = inr (record { many = omega (arith, so_far.count, last); told = read; read = refl; unwritten = refl; go = go });
  }
