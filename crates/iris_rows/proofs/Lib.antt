-- views_agree: ViewOfStep, over PlainWalk, WalkOfView, RowsByName, ViewByPath (resolving), WrittenContent, ResizedContent (bytes), ViewOfFiled, ViewOfEmptied, KindsByPath (changes)
-- steps_stay_sound: SoundStep, over SteadyStep (distinct names, whole blocks, versions, ids: DistinctRows, FilesAmongRows, TimesGiven, CountedFiles, Steady),
--   OrderedStep and TrashNames (order of names: RisingNames), FileLengths (greatest length), RowCount (no more rows than ids)
-- FileRow: KeptFiles, over KeptPlaces; trash_name: DigitsOfIds; items in preorder: GrownRows
pub mod RowHolding
pub mod PlainWalk
pub mod WalkOfView
pub mod RowsByName
pub mod KindsByPath
pub mod ViewByPath
pub mod ViewOfFiled
pub mod ResizedContent
pub mod ViewOfEmptied
pub mod ViewOfStep
pub mod WrittenContent
pub mod DistinctRows
pub mod FilesAmongRows
pub mod TimesGiven
pub mod CountedFiles
pub mod SteadyStep
pub mod RisingNames
pub mod OrderedStep
pub mod Steady
pub mod TrashNames
pub mod FileLengths
pub mod SoundStep
pub mod RowCount
pub mod KeptPlaces
pub mod KeptFiles
pub mod GrownRows
pub mod DigitsOfIds
