-- The refusals' numbers, and what is told by answers that are refused.
use Rattle.std.specs.Prelude.{Bool, cond, List, ℕ, Result, Ok, Err, codes}
use Rattle.tables.specs.declared.Refusal.{Refusal}
use Rattle.tables.specs.declared.Refusal.TheVariants.{NowOutside, NowEarly, WordWrong, NothingFlagged}
use Rattle.tables.specs.declared.Refusal.TheVariants.{ValueOutside, RateOutside, ReferenceAlone, NotStarted}
use Rattle.tables.specs.declared.Refusal.TheVariants.{ContinuousReference, ContinuousSet, MonotonicSetAndRate}
use Rattle.tables.specs.declared.Refusal.TheVariants.{LineOutside, BelowBackstop, MonotonicBack}
use Rattle.tables.specs.declared.Refusal.TheVariants.{ContinuousNotMonotonic, BackstopOutside, BackstopAhead}
use Rattle.tables.specs.declared.Refusal.TheVariants.{TooShort, PaddingSet, BytesLeftOver, BufferShort}
use Rattle.tables.specs.declared.Refusal.TheVariants.{RateStep, VersionNeedless, NotFinite, NotACommand}
use Rattle.tables.specs.declared.Refusal.TheVariants.{NotAClock}

-- the number of each (01, 'When the clock says no', and the requests of 02; 254 and 255 are ours)
abbrev pub number : Refusal → ℕ
number NowOutside = 1
number NowEarly = 2
number WordWrong = 3
number NothingFlagged = 4
number ValueOutside = 5
number RateOutside = 6
number ReferenceAlone = 7
number NotStarted = 8
number ContinuousReference = 9
number ContinuousSet = 10
number MonotonicSetAndRate = 11
number LineOutside = 12
number BelowBackstop = 13
number MonotonicBack = 14
number ContinuousNotMonotonic = 15
number BackstopOutside = 16
number BackstopAhead = 17
number TooShort = 18
number PaddingSet = 19
number BytesLeftOver = 20
number BufferShort = 21
number RateStep = 22
number VersionNeedless = 31
number NotFinite = 32
number NotACommand = 254
number NotAClock = 255

-- and what it says
abbrev pub sentence : Refusal → List ℕ
sentence NowOutside = codes "now lies outside 0..END"
sentence NowEarly = codes "now lies before the clock's latest time"
sentence WordWrong = codes "a bit is set that must be zero, or a version isn't known"
sentence NothingFlagged = codes "no argument is flagged"
sentence ValueOutside = codes "a time or a value lies outside its range"
sentence RateOutside = codes "a rate lies outside -1000..1000"
sentence ReferenceAlone = codes "a reference comes with neither a value nor a rate"
sentence NotStarted = codes "the clock isn't started, and what is asked needs one that is"
sentence ContinuousReference = codes "a continuous clock is handed a reference, at its start or later"
sentence ContinuousSet = codes "a continuous clock that runs is to be set"
sentence MonotonicSetAndRate = codes "a monotonic clock that runs is handed a value and a rate at once"
sentence LineOutside = codes "a line's value lies outside 0..END where it begins, or above END at now"
sentence BelowBackstop = codes "the clock would show less than its backstop"
sentence MonotonicBack = codes "a monotonic clock that runs would show less than it does"
sentence ContinuousNotMonotonic = codes "a new clock is to be continuous without being monotonic"
sentence BackstopOutside = codes "a new clock's backstop lies outside 0..END"
sentence BackstopAhead = codes "a new clock is to start at once, with its backstop ahead of now"
sentence TooShort = codes "there are fewer bytes than what is read calls for"
sentence PaddingSet = codes "a padding bit is set"
sentence BytesLeftOver = codes "bytes follow what is read"
sentence BufferShort = codes "the buffer is too short for what is written"
sentence RateStep = codes "a clock that runs is handed a rate more than 200 from its own"
sentence VersionNeedless = codes "a slip has version 3, though version 2 would hold it"
sentence NotFinite = codes "a command's number or what comes of it isn't finite, or its window isn't above zero"
sentence NotACommand = codes "what was handed in is a command of no known kind"
sentence NotAClock = codes "what was handed in is not taken for a clock"

-- the number that an answer tells: that of its refusal, else 0
abbrev pub refusal_of : {A : Type 0} → Result A Refusal → ℕ
refusal_of (Ok x) = 0
refusal_of (Err r) = number r

-- refused where the test holds
unfoldable pub refused_if : Bool → Refusal → Result Unit Refusal
refused_if test r = cond test (Err r) (Ok tt)
